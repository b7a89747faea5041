-- A walk over items, and over members.
use Rattle.std.proofs.Common.{◌≡◌, ◌<◌, ◌≤◌, ◌+◌, ℕ, suc, zero, List, [], ◌∷◌, length, get_or, take, map, refl, sym, subst, arith}
use Rattle.std.proofs.Common.{chars, encode_utf8_all}
use Rattle.std.proofs.lemmas.List.{take_all}
use Rattle.arm_value.specs.Json.{Json, Member, row, pairs}
use Rattle.arm_value.specs.View.{json, member}
use Rattle.arm_value.specs.declared.value.Value.{Value}
use Rattle.arm_value.specs.declared.value.Field.{Field}
use Rattle.read_backs.specs.Characters.{IsText, HasCharacters, RowHasCharacters, PairsHaveCharacters}

-- the text of these bytes
pub is_text : (s bytes : List ℕ) → bytes ≡ encode_utf8_all s → chars bytes ≡ s → IsText s
is_text s bytes e h = subst (λ (b : List ℕ). chars b ≡ s) e h

-- the first of the values have characters alone
abbrev pub ValuesUpTo : ℕ → List Value → Type 0
ValuesUpTo i vs = RowHasCharacters (row (map json (take i vs)))

abbrev pub FieldsUpTo : ℕ → List Field → Type 0
FieldsUpTo i fs = PairsHaveCharacters (pairs (map member (take i fs)))

pub values_more : (vs : List Value) (i : ℕ) (v : Value) → i < length vs → v ≡ get_or vs i v
    → HasCharacters (json v) → ValuesUpTo i vs → ValuesUpTo (suc i) vs
values_more [] i v low is h a = absurd (omega (arith, low))
values_more (w ∷ vs) zero v low is h a = (subst (λ (x : Value). HasCharacters (json x)) is h, tt)
values_more (w ∷ vs) (suc i) v low is h a = (a.0, values_more vs i v (omega (arith, low)) is h a.1)

pub fields_more : (fs : List Field) (i : ℕ) (f : Field) → i < length fs → f ≡ get_or fs i f → IsText f.name
    → HasCharacters (json f.value) → FieldsUpTo i fs → FieldsUpTo (suc i) fs
fields_more [] i f low is n h a = absurd (omega (arith, low))
fields_more (g ∷ fs) zero f low is n h a = (
  subst (λ (x : Field). IsText x.name) is n,
  subst (λ (x : Field). HasCharacters (json x.value)) is h,
  tt,
)
fields_more (g ∷ fs) (suc i) f low is n h a = (a.0, a.1, fields_more fs i f (omega (arith, low)) is n h a.2)

pub values_all : (vs : List Value) (js : List Json) (i : ℕ) → map json vs ≡ js → length vs ≤ i → ValuesUpTo i vs
    → RowHasCharacters (row js)
values_all vs js i e h a =
    subst (λ (x : List Json). RowHasCharacters (row x)) e
    (subst (λ (x : List Value). RowHasCharacters (row (map json x))) (take_all i vs h) a)

pub fields_all : (fs : List Field) (ms : List Member) (i : ℕ) → map member fs ≡ ms → length fs ≤ i → FieldsUpTo i fs
    → PairsHaveCharacters (pairs ms)
fields_all fs ms i e h a =
    subst (λ (x : List Member). PairsHaveCharacters (pairs x)) e
    (subst (λ (x : List Field). PairsHaveCharacters (pairs (map member x))) (take_all i fs h) a)
