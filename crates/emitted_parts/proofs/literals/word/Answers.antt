use Rattle.std.proofs.Common.{ap, ◌∙◌}
use Rattle.foundation.proofs.AsciiWords.{word}
use Rattle.arm_expr.specs.Tree.{text}
use Rattle.arm_expr.proofs.ViewLemmas.{tree_of-Text}
use Rattle.emitted_parts.proofs.literals.word.Goals as goal

pub returns : goal.returns
returns c = λ h. tree_of-Text c.in_ok-of.field-0 ∙ ap text (c.in_ok-of.ensures ∙ word c.args.characters.now h)
