use Rattle.std.proofs.Common.{◌≡◌, ◌∙◌, ◌++◌, ℕ, List, codes, refl, subst}
use Rattle.std.specs.Prelude.{IfOk}
use Rattle.foundation.proofs.AsciiWords.{word}
use Rattle.lock_rules.proofs.lock.Lock.id.Goals as goal

pub returns : goal.returns
returns c =
    let P : List ℕ → Type 0 = λ w. IfOk c.joined.result (λ t. t ≡ w) in
    let scope = c.as_str.ensures.characters ∙ c.in_ok-scope.ensures.text in
    let between = word (codes "/providers/Microsoft.Authorization/locks/") refl in
    subst P (λ i. scope i ++ (between i ++ c.as_str-2.ensures.characters i)) c.joined.ensures
