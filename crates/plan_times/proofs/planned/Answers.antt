use Rattle.template_tree.specs.View.{template_tree}
use Rattle.plan_times.proofs.planned.Goals as goal

pub plan-found-requires : goal.plan-found-requires
plan-found-requires c =
    record { names_differ = c.stated_names_differ.ensures (template_tree c.args.template.now) c.requires }
