use Rattle.arm_template.proofs.StatesLemmas.{stated_keeps, stated_nests, all_state}
use Rattle.arm_template.proofs.write.write_template.Goals as goal
use Rattle.template_tree.specs.View.{template_tree}

pub write_template-requires-clause-keeps : goal.write_template-requires-clause-keeps
write_template-requires-clause-keeps c = stated_keeps (template_tree c.args.template.now) c.requires.stated

pub write_template-requires-clause-nests : goal.write_template-requires-clause-nests
write_template-requires-clause-nests c = stated_nests (template_tree c.args.template.now) c.requires.stated

pub returns-clause-states : goal.returns-clause-states
returns-clause-states c =
    all_state (template_tree c.args.template.now) c.requires.stated c.write_template.result c.write_template.ensures
