use Rattle.std.proofs.Common.{◌∙◌}
use Rattle.template_nestings.proofs.TreeLemmas.{children_are}
use Rattle.template_nestings.proofs.templates.children.Goals as goal

pub returns-else-is_empty : goal.returns-else-is_empty
returns-else-is_empty c =
    c.up.ensures
    ∙ children_are c.as_slice.result.now c.args.resources.now c.is_empty.result c.args.deepest c.as_slice.ensures
    c.is_empty.ensures c.if-is_empty.false
