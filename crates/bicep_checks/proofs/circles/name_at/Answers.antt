use Rattle.std.proofs.Common.{◌≡◌, ◌≤◌, ℕ, List, [], map, length, option_map, sym, ap, subst, ◌∙◌}
use Rattle.std.specs.Prelude.{IfOk}
use Rattle.std.proofs.lemmas.Bool.{ltb-false}
use Rattle.std.proofs.lemmas.Option.{slice_get-map, slice_get_past}
use Rattle.std.proofs.lemmas.Str.{chars-nil}
use Rattle.bicep_symbols.specs.declared.entry.Entry.{Entry}
use Rattle.bicep_symbols.specs.Entries.{symbol_of}
use Rattle.bicep_checks.specs.Faults.{symbol_text, name_at}
use Rattle.bicep_checks.proofs.circles.name_at.Goals as goal

absent : (es : List Entry) (n : ℕ) → length es ≤ n → name_at (map symbol_of es) n ≡ []
absent es n h =
    ap symbol_text (slice_get-map symbol_of es n ∙ ap (option_map symbol_of) (slice_get_past es n h))

pub returns-in-None : goal.returns-in-None
returns-in-None c =
    let P : List ℕ → Type 0 = λ w. IfOk c.of.result (λ t. t ≡ w) in
    subst P
    (chars-nil ∙ sym (absent c.args.entries.now c.args.number (ltb-false _ _ (sym c.in-None.ensures.lookup.0))))
    c.of.ensures
