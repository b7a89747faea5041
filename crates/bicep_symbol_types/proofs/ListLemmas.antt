-- Types by the numbers of symbols.
use Rattle.std.proofs.Common.{◌≡◌, ◌<◌, ◌≤◌, ℕ, zero, suc, List, [], ◌∷◌, length, refl, sym, ap, ap₂, ◌∙◌, get_or}
use Rattle.std.proofs.Common.{arith, set, drop}
use Rattle.std.specs.Prelude.{Option, Some, None, slice_get, option_map}
use Rattle.std.proofs.lemmas.List.{get_or-set_other}
use Rattle.std.proofs.lemmas.Option.{slice_get-map, slice_get_past}
use Rattle.bicep_declared.specs.Declarations.{DeclaredTree}
use Rattle.bicep_signatures.specs.declared.value_type.ValueType.{ValueType}
use Rattle.bicep_signatures.specs.declared.value_type.ValueType.TheVariants as type
use Rattle.bicep_typing.specs.Names.{known}
use Rattle.bicep_symbol_types.specs.SymbolTypes.{symbol_type, with_outputs, type_step}
use Rattle.bicep_symbol_types.specs.Along.{type_by}

pub set_past : {A : Type 0} (xs : List A) (n : ℕ) (x : A) → length xs ≤ n → set xs n x ≡ xs
set_past [] n x h = refl
set_past (y ∷ xs) zero x h = absurd (omega (arith, h))
set_past (y ∷ xs) (suc n) x h = ap (λ ys. y ∷ ys) (set_past xs n x (omega (arith, h)))

pub known_get : (xs : List ValueType) (n : ℕ) → known (slice_get xs n) ≡ get_or xs n type.Any
known_get [] n = refl
known_get (x ∷ xs) zero = refl
known_get (x ∷ xs) (suc n) = known_get xs n

pub known_past : (xs : List ValueType) (n : ℕ) → length xs ≤ n → known (slice_get xs n) ≡ type.Any
known_past xs n h = ap known (slice_get_past xs n h)

pub set_here : (xs : List ValueType) (n : ℕ) (x : ValueType) → n < length xs → known (slice_get (set xs n x) n) ≡ x
set_here [] n x h = absurd (omega (arith, h))
set_here (y ∷ xs) zero x h = refl
set_here (y ∷ xs) (suc n) x h = set_here xs n x (omega (arith, h))

pub set_other : (xs : List ValueType) (n m : ℕ) (x : ValueType) → (m ≡ n → ⊥)
    → known (slice_get (set xs n x) m) ≡ known (slice_get xs m)
set_other xs n m x other =
    known_get (set xs n x) m ∙ get_or-set_other xs n m x type.Any other ∙ sym (known_get xs m)

-- lists of one length that are the same at each number are the same
pub same_lists : (xs ys : List ValueType) → length xs ≡ length ys
    → ((n : ℕ) → n < length xs → known (slice_get xs n) ≡ known (slice_get ys n)) → xs ≡ ys
same_lists [] [] e f = refl
same_lists [] (y ∷ ys) e f = absurd (omega (arith, e))
same_lists (x ∷ xs) [] e f = absurd (omega (arith, e))
same_lists (x ∷ xs) (y ∷ ys) e f =
    ap₂ (λ a b. a ∷ b) (f zero (omega arith))
    (same_lists xs ys (omega (arith, e)) (λ n h. f (suc n) (omega (arith, h))))

known_by : (os : List (List ValueType)) (xs : List ValueType) (o : Option DeclaredTree)
    → known (option_map (symbol_type (with_outputs os xs)) o) ≡ type_by os xs o
known_by os xs None = refl
known_by os xs (Some d) = refl

-- the declaration of a number says its type
pub step_at : (os : List (List ValueType)) (ds : List DeclaredTree) (xs : List ValueType) (n : ℕ)
    → known (slice_get (type_step os ds xs) n) ≡ type_by os xs (slice_get ds n)
step_at os ds xs n =
    ap known (slice_get-map (symbol_type (with_outputs os xs)) ds n) ∙ known_by os xs (slice_get ds n)

-- what is left of a list from a number on
pub peeled : (xs : List ℕ) (i n : ℕ) (ns : List ℕ) → drop i xs ≡ n ∷ ns
    → (i < length xs) × (get_or xs i 0 ≡ n) × (drop (suc i) xs ≡ ns)
peeled [] zero n ns e = absurd (cc)
peeled [] (suc i) n ns e = absurd (cc)
peeled (x ∷ xs) zero n ns e =
    (omega arith, ap (λ l. get_or l 0 0) e, ap (drop 1) e)
peeled (x ∷ xs) (suc i) n ns e =
    let r = peeled xs i n ns e in
    let h = r.0 in
    (omega (arith, h), r.1, r.2)

pub all_peeled : (xs : List ℕ) (i : ℕ) → drop i xs ≡ [] → length xs ≤ i
all_peeled [] i e = omega arith
all_peeled (x ∷ xs) zero e = absurd (cc)
all_peeled (x ∷ xs) (suc i) e = let h = all_peeled xs i e in omega (arith, h)
