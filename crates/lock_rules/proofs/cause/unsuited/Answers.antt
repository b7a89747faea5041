use Rattle.std.proofs.Common.{◌≡◌, ◌∙◌, ◌++◌, ℕ, List, codes, refl, subst}
use Rattle.std.specs.Prelude.{IfOk}
use Rattle.foundation.proofs.AsciiWords.{word}
use Rattle.lock_rules.proofs.cause.unsuited.Goals as goal

pub returns-in-Ok : goal.returns-in-Ok
returns-in-Ok c =
    let P : List ℕ → Type 0 = λ w. IfOk c.and_text.result (λ t. t ≡ w) in
    let text = c.as_str.ensures.characters ∙ c.in-Ok.ensures in
    subst P (λ i. c.args.names ++ (word (codes ": ") refl i ++ text i)) c.and_text.ensures
