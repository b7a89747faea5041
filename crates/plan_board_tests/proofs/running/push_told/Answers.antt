use Rattle.template_tree.specs.View.{template_tree}
use Rattle.plan_board_tests.proofs.running.push_told.Goals as goal

pub plan-requires : goal.plan-requires
plan-requires c =
    record { names_differ = c.stated_names_differ.ensures (template_tree c.args.asked.now.template) c.requires }

pub push_run-pushed-requires : goal.push_run-pushed-requires
push_run-pushed-requires c = c.in-Ok.ensures.accepted
