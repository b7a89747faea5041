-- Rows of the table, one after another.
use Rattle.std.proofs.Common.{◌≡◌, ◌<◌, ◌≤◌, ◌+◌, ℕ, true, false, List, [], ◌∷◌, Option, Some, None, Bor, length}
use Rattle.std.proofs.Common.{get_or, drop, map, add-one, refl, ap, sym, ◌∙◌}
use Rattle.std.specs.Str.{chars}
use Rattle.std.proofs.Math.Seq.{drop-cons}
use Rattle.std.proofs.lemmas.List.{drop_all}
use Rattle.std.specs.Prelude.{if◌then◌else◌}
use Rattle.arm_value.specs.Look.{is_same_folded}
use Rattle.arm_functions.specs.declared.plain.Plain.{Plain}
use Rattle.arm_functions.specs.Table.{Row, row_in}

-- what a row says beside its name
abbrev pub Said : Type 0
Said = Option (ℕ × Option ℕ × Option Plain)

row_in-cons : (name : List ℕ) (r : Row) (rs : List Row)
    → row_in name (r ∷ rs) ≡ (if is_same_folded name r.0 then Some (r.1, r.2, r.3) else row_in name rs)
unfolding row_in
row_in-cons name r rs = refl

row_in-nil : (name : List ℕ) → row_in name [] ≡ None
unfolding row_in
row_in-nil name = refl

pub row_found : (name : List ℕ) (r : Row) (rs left : List Row) (all : Said) → left ≡ r ∷ rs
    → true ≡ is_same_folded name r.0 → row_in name left ≡ all → ◌≡◌ {A = Said} (Some (r.1, r.2, r.3)) all
row_found name r rs left all l t before = sym (ap (row_in name) l ∙ row_in-cons name r rs ∙ rw (sym t) refl) ∙ before

pub row_passed : (name : List ℕ) (r : Row) (rs left : List Row) (all : Said) → left ≡ r ∷ rs
    → false ≡ is_same_folded name r.0 → row_in name left ≡ all → row_in name rs ≡ all
row_passed name r rs left all l t before = sym (ap (row_in name) l ∙ row_in-cons name r rs ∙ rw (sym t) refl) ∙ before

pub no_row : (name : List ℕ) (left : List Row) (all : Said) → left ≡ [] → row_in name left ≡ all
    → ◌≡◌ {A = Said} None all
no_row name left all l before = sym (ap (row_in name) l ∙ row_in-nil name) ∙ before

-- ---- rows of the code

abbrev pub Spelled : Type 0
Spelled = Bor (List ℕ) × ℕ × Option ℕ × Option Plain

abbrev pub counted : Spelled → Row
counted r = (chars r.0.now, r.1, r.2, r.3)

pub row_apart : (rows : List Spelled) (i : ℕ) (d : Spelled) → i < length rows
    → map counted (drop i rows) ≡ counted (get_or rows i d) ∷ map counted (drop (i + 1) rows)
row_apart rows i d h = rw add-one (ap (map counted) (drop-cons rows i d h))

pub no_row_left : (rows : List Spelled) (i : ℕ) → length rows ≤ i → map counted (drop i rows) ≡ []
no_row_left rows i h = ap (map counted) (drop_all i rows h)
