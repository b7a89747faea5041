use Rattle.std.proofs.Common.{◌≡◌, ◌∙◌, ◌++◌, ℕ, List, ap, subst}
use Rattle.std.specs.Prelude.{IfOk}
use Rattle.std.proofs.lemmas.List.{take_rest}
use Rattle.std.proofs.lemmas.Str.{chars-nil}
use Rattle.lock_rules.specs.Spaced.{after_spaces}
use Rattle.lock_rules.proofs.SpacedLemmas.{spaced_split, spaced_none}
use Rattle.lock_rules.proofs.spacing.spaced.Goals as goal

pub returns-in-Some : goal.returns-in-Some
returns-in-Some c =
    let P : List ℕ → Type 0 = λ w. IfOk c.spaced_from.result (λ t. t ≡ w) in
    let found = c.in-Some.ensures.lookup in
    let first = c.in-Some.first.now in
    subst P (ap (λ ns. first ++ after_spaces ns) (take_rest c.args.names.now 1)
    ∙ spaced_split c.args.names.now first found.0 found.1) c.spaced_from.ensures

pub returns-in-None : goal.returns-in-None
returns-in-None c =
    let P : List ℕ → Type 0 = λ w. IfOk c.of.result (λ t. t ≡ w) in
    subst P (chars-nil ∙ spaced_none c.args.names.now c.in-None.ensures.lookup.0) c.of.ensures
