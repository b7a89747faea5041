use Rattle.std.proofs.Common.{ap, subst, ◌∙◌}
use Rattle.arm_expr.specs.Tree.{text}
use Rattle.arm_expr.proofs.ViewLemmas.{tree_of-Text}
use Rattle.emitted_parts.specs.Built.{IsText}
use Rattle.emitted_expressions.proofs.fields.owned_text.Goals as goal

pub returns-in-Ok : goal.returns-in-Ok
returns-in-Ok c = λ t h. tree_of-Text c.in-Ok.characters ∙ ap text (subst (IsText t) c.in-Ok.is h)
