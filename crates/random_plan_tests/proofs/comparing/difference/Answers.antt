use Rattle.template_tree.specs.View.{template_tree}
use Rattle.random_plan_tests.proofs.comparing.difference.Goals as goal

pub plan-found-requires : goal.plan-found-requires
plan-found-requires c =
    record { names_differ = c.stated_names_differ.ensures (template_tree c.args.asked.now.template) c.requires }
