-- A name in small letters has the ways that the name has.
use Rattle.std.proofs.Common.{◌≡◌, ℕ, Bool, List, [], ◌∷◌, Option, Some, None, bytes_eq, option_map}
use Rattle.std.proofs.Common.{refl, ap, ap₂}
use Rattle.std.specs.Prelude.{if◌then◌else◌}
use Rattle.std.proofs.lemmas.Str.Ascii.{lowercase-lowercase}
use Rattle.arm_value.specs.Look.{fold, is_same_folded}
use Rattle.arm_functions.specs.Table.{Row, row_in, table}
use Rattle.arm_functions.specs.declared.plain.Plain.{Plain}
use Rattle.bicep_signatures.specs.declared.signature.Signatures.{Signatures}
use Rattle.bicep_signatures.specs.Table as own
use Rattle.bicep_signatures.specs.Table.{signatures_in, signatures_of, where_counted, or_else}

abbrev Counted : Type 0
Counted = Option (ℕ × Option ℕ × Option Plain)

folded_twice : (s : List ℕ) → fold (fold s) ≡ fold s
folded_twice [] = refl
folded_twice (c ∷ s) = ap₂ (λ (d : ℕ) (r : List ℕ). d ∷ r) (lowercase-lowercase c) (folded_twice s)

same_twice : (s t : List ℕ) → is_same_folded (fold s) t ≡ is_same_folded s t
same_twice s t = ap (λ (a : List ℕ). bytes_eq a (fold t)) (folded_twice s)

row_twice : (name : List ℕ) (rs : List Row) → row_in (fold name) rs ≡ row_in name rs
unfolding row_in
row_twice name [] = refl
row_twice name (r ∷ rs) =
    ap₂ (λ (b : Bool) (o : Counted). if b then Some (r.1, r.2, r.3) else o) (same_twice name r.0) (row_twice name rs)

ways_twice : (name : List ℕ) (rs : List (List ℕ × Signatures)) → signatures_in (fold name) rs ≡ signatures_in name rs
ways_twice name [] = refl
ways_twice name (r ∷ rs) =
    ap₂ (λ (b : Bool) (o : Option Signatures). or_else (if b then Some r.1 else None) o) (same_twice name r.0)
    (ways_twice name rs)

-- a function is named in small letters as well
pub in_small_letters : (name : List ℕ) (n : ℕ) → signatures_of (fold name) n ≡ signatures_of name n
unfolding signatures_of
in_small_letters name n =
    ap₂ (λ (c : Counted) (o : Option Signatures). where_counted (option_map (λ r. (r.0, r.1)) c) n o)
    (row_twice name table) (ways_twice name own.table)
