use Rattle.std.proofs.Common.{ℕ, List, IfOk, ◌≡◌, codes, refl, subst}
use Rattle.foundation.proofs.AsciiWords.{word}
use Rattle.template_reading.proofs.values.empty_text.Goals as goal

pub returns : goal.returns
returns c = subst (λ (x : List ℕ). IfOk c.of.result (λ t. t ≡ x)) (word (codes "") refl) c.of.ensures
