use Rattle.std.proofs.Common.{ap, ◌∙◌}
use Rattle.arm_expr.specs.Tree.{text}
use Rattle.arm_expr.proofs.ViewLemmas.{tree_of-Text}
use Rattle.emitted_parts.proofs.literals.text.Goals as goal

pub returns : goal.returns
returns c = tree_of-Text c.in_ok-copy.field-0 ∙ ap text c.in_ok-copy.ensures
