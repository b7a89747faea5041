-- The functions that a file may call have ways to be called.
use Rattle.std.proofs.Common.{◌≡◌, ℕ, ◌||◌, Bool, true, false, true≢false, List, [], ◌∷◌, Option, Some, None}
use Rattle.std.proofs.Common.{bytes_eq}
use Rattle.std.proofs.Common.{refl, sym, ap, ap₂, ◌∙◌}
use Rattle.std.specs.Prelude.{not, is_some, if◌then◌else◌}
use Rattle.std.specs.List.{list_all}
use Rattle.foundation.proofs.TruthValues.{both}
use Rattle.foundation.proofs.Words.{eq_word}
use Rattle.arm_value.specs.Look.{fold, is_same_folded, is_among}
use Rattle.arm_functions.specs.declared.plain.Plain.{Plain}
use Rattle.arm_functions.specs.Table as functions
use Rattle.arm_functions.specs.Table.{Row, row_in, row_of, counts}
use Rattle.arm_functions.specs.Values.{admits}
use Rattle.bicep_names.specs.Functions.{reserved, may_call}
use Rattle.bicep_signatures.specs.declared.signature.Signatures.{Signatures}
use Rattle.bicep_signatures.specs.Table.{table, signatures_in, signatures_of, where_counted, or_else}

-- no file calls the function by name, or there are ways to call it
abbrev fine : List ℕ → Bool
fine name = is_among reserved name || is_some (signatures_in name table)

abbrev row_fine : Row → Bool
row_fine r = fine r.0

all_fine : list_all row_fine functions.table ≡ true
unfolding reserved table functions.table
all_fine = refl

among_same : (a b : List ℕ) → fold a ≡ fold b → (names : List (List ℕ)) → is_among names a ≡ is_among names b
among_same a b e [] = refl
among_same a b e (x ∷ names) = ap₂ (λ (y : List ℕ) (o : Bool). bytes_eq y (fold x) || o) e (among_same a b e names)

ways_same : (a b : List ℕ) → fold a ≡ fold b → (rs : List (List ℕ × Signatures))
    → signatures_in a rs ≡ signatures_in b rs
ways_same a b e [] = refl
ways_same a b e (r ∷ rs) =
    ap₂ (λ (y : List ℕ) (o : Option Signatures). or_else (if bytes_eq y (fold r.0) then Some r.1 else None) o) e
    (ways_same a b e rs)

fine_same : (a b : List ℕ) → fold a ≡ fold b → fine b ≡ true → fine a ≡ true
fine_same a b e h =
    ap₂ (λ (x : Bool) (o : Option Signatures). x || is_some o) (among_same a b e reserved) (ways_same a b e table) ∙ h

fine_by : (name : List ℕ) (r : Row) (o : Option (ℕ × Option ℕ × Option Plain)) → fine r.0 ≡ true
    → (is_some o ≡ true → fine name ≡ true) → (b : Bool) → is_same_folded name r.0 ≡ b
    → is_some (if b then Some (r.1, r.2, r.3) else o) ≡ true → fine name ≡ true
fine_by name r o h rest true is e = fine_same name r.0 (eq_word (fold name) (fold r.0) is) h
fine_by name r o h rest false is e = rest e

is_fine : (name : List ℕ) (rs : List Row) → list_all row_fine rs ≡ true → is_some (row_in name rs) ≡ true
    → fine name ≡ true
unfolding row_in
is_fine name [] h e = absurd (true≢false (sym e))
is_fine name (r ∷ rs) h e =
    let p = both (row_fine r) (list_all row_fine rs) h in
    fine_by name r (row_in name rs) p.0 (is_fine name rs p.1) (is_same_folded name r.0) refl e

has_ways : (x y : Bool) → not x ≡ true → (x || y) ≡ true → y ≡ true
has_ways true y n e = absurd (true≢false (sym n))
has_ways false y n e = e

some_ways : (o : Option Signatures) → is_some o ≡ true → (w : Signatures) × (o ≡ Some w)
some_ways (Some w) e = (w, refl)
some_ways None e = absurd (true≢false (sym e))

counted_ways : (o : Option (ℕ × Option ℕ)) (c : ℕ × Option ℕ) (n : ℕ) (s : Option Signatures) → o ≡ Some c
    → admits c.0 c.1 n ≡ true → where_counted o n s ≡ s
counted_ways o c n s is e =
    ap (λ x. where_counted x n s) is ∙ ap (λ (b : Bool). if b then s else None) e

pub callable : (name : List ℕ) (c : ℕ × Option ℕ) (n : ℕ) → may_call name ≡ true → counts name ≡ Some c
    → admits c.0 c.1 n ≡ true → (w : Signatures) × (signatures_of name n ≡ Some w)
unfolding may_call signatures_of
callable name c n may is e =
    let p = both (not (is_among reserved name)) (is_some (row_of name)) may in
    let f = is_fine name functions.table all_fine p.1 in
    let q = some_ways (signatures_in name table) (has_ways (is_among reserved name) _ p.0 f) in
    (q.0, counted_ways (counts name) c n (signatures_in name table) is e ∙ q.1)
