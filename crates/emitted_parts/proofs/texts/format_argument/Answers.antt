use Rattle.std.proofs.Common.{ap, ◌∙◌}
use Rattle.arm_expr.specs.Tree.{text}
use Rattle.arm_expr.proofs.ViewLemmas.{tree_of-Text}
use Rattle.emitted_parts.proofs.texts.format_argument.Goals as goal

pub returns : goal.returns
returns c = tree_of-Text c.in_ok-format_text.field-0 ∙ ap text c.in_ok-format_text.ensures
