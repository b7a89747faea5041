use Rattle.std.proofs.Common.{◌≡◌, ◌∙◌, ◌++◌, ℕ, List, codes, refl, sym, ap, subst}
use Rattle.std.specs.Prelude.{IfOk}
use Rattle.foundation.proofs.AsciiWords.{word}
use Rattle.lock_rules.specs.Causes.{message_of}
use Rattle.lock_rules.specs.Spaced.{spaced}
use Rattle.lock_rules.proofs.cause.Cause.message.Goals as goal

pub returns-in-NoValue : goal.returns-in-NoValue
returns-in-NoValue c =
    let P : List ℕ → Type 0 = λ w. IfOk c.and_text.result (λ t. t ≡ w) in
    subst P ((λ i. c.in_ok-names.ensures i ++ (word (codes ": ") refl i ++ c.as_str.ensures.characters i))
    ∙ sym (ap (message_of (spaced c.args.names.now)) c.in-NoValue.is)) c.and_text.ensures
