use Rattle.std.proofs.Common.{◌≡◌, ℕ, List, IfOk, codes, refl, sym, ap, ◌∙◌, subst}
use Rattle.foundation.proofs.AsciiWords.{word}
use Rattle.template_written.specs.Written.{name_or_none}
use Rattle.template_writer.proofs.template.symbol_text.Goals as goal

pub returns-in-None : goal.returns-in-None
returns-in-None c =
    subst (λ (x : List ℕ). IfOk c.of.result (λ t. t ≡ x)) (word (codes "") refl ∙ sym (ap name_or_none c.in-None.is))
    c.of.ensures
