use Rattle.std.proofs.Common.{◌≡◌, ◌∙◌, ◌++◌, ℕ, List, ap, codes, refl, subst}
use Rattle.std.specs.Prelude.{IfOk}
use Rattle.foundation.proofs.AsciiWords.{word}
use Rattle.lock_rules.specs.BindFaults.{named, reason_of}
use Rattle.lock_rules.proofs.bind_fault.fault_text.Goals as goal

pub returns-in-Some : goal.returns-in-Some
returns-in-Some c =
    let P : List ℕ → Type 0 = λ w. IfOk c.joined.result (λ t. t ≡ w) in
    subst P ((λ i. c.reason_of.ensures i ++ (word (codes " ") refl i ++ c.as_str.ensures.characters i))
    ∙ ap (named (reason_of c.args.fault.now)) c.in-Some.ensures) c.joined.ensures
