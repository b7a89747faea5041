use Rattle.std.proofs.Common.{◌≡◌, ◌∙◌, ℕ, List, ap, sym, subst}
use Rattle.std.specs.Prelude.{IfOk}
use Rattle.std.specs.Option.{option_copied}
use Rattle.std.proofs.lemmas.Str.{chars-nil}
use Rattle.bicep_placed.specs.Kinds.{whole_kind}
use Rattle.bicep_placed.proofs.KindLemmas.{no_path}
use Rattle.bicep_placed.proofs.kinds.whole_kind.Goals as goal

pub returns-in-None : goal.returns-in-None
returns-in-None c =
    let P : List ℕ → Type 0 = λ w. IfOk c.of.result (λ t. t ≡ w) in
    subst P (chars-nil ∙ (no_path c.args.before.now c.args.around
    ∙ ap (λ o. whole_kind c.args.before.now c.args.around (option_copied o)) (sym c.in-None.is))) c.of.ensures
