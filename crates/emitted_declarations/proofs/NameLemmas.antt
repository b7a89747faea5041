-- The parts of a name in an id: a name has the parts of an id of its type exactly where it has so many segments.
use Rattle.std.proofs.Common.{◌≡◌, ◌⊎◌, inl, inr, ℕ, zero, suc, length, List, [], ◌∷◌, ◌++◌}
use Rattle.std.proofs.Common.{Option, Some, None, Bool, true, false, append-nil, refl, sym, ap, ◌∙◌}
use Rattle.std.proofs.Common.{arith}
use Rattle.std.proofs.Common.{◌||◌, ◌&&◌, not}
use Rattle.std.specs.Prelude.{◌==◌, nat_lt, option_map, option_and_then, if◌then◌else◌}
use Rattle.std.specs.List.{list_any}
use Rattle.std.proofs.lemmas.Bool.{or_right}
use Rattle.foundation.proofs.TruthValues.{unless, and_false}
use Rattle.arm_ids.specs.Id.{is_whole, has_empty_segment}
use Rattle.arm_ids.specs.Segments.{segments, slashed, joined, is_empty, has_slash, is_slash}
use Rattle.arm_ids.specs.declared.id.Place.{Place}
use Rattle.arm_ids.specs.declared.id.ResourceId.{ResourceId}
use Rattle.arm_ids.proofs.SegmentLemmas.{segments_cut}
use Rattle.bicep_emission.specs.Made.{made, is_made, made_whole}
use Rattle.foundation.proofs.Comparisons.{eq_of_true, ne_of_false}

-- the first n of these, and then the others as one text
abbrev pub names_from : List (List ℕ) → ℕ → Option (List (List ℕ))
names_from ss zero = Some (joined ss ∷ [])
names_from [] (suc n) = None
names_from (s ∷ ss) (suc n) = option_map (λ ns. s ∷ ns) (names_from ss n)

-- where there are so many segments
all_names : (ss : List (List ℕ)) (n : ℕ) → length ss ≡ suc n → names_from ss n ≡ Some ss
all_names [] n e = absurd (omega arith)
all_names (s ∷ []) zero e = ap (λ (t : List ℕ). Some (t ∷ [])) (append-nil s)
all_names (s ∷ t ∷ ss) zero e = absurd (omega arith)
all_names (s ∷ ss) (suc n) e = ap (option_map (λ (ns : List (List ℕ)). s ∷ ns)) (all_names ss n (omega arith))

-- a name is empty, or has a slash in it
abbrev IsUnfit : List (List ℕ) → Type 0
IsUnfit ns = (list_any is_empty ns ≡ true) ⊎ (list_any has_slash ns ≡ true)

abbrev AreUnfit : Option (List (List ℕ)) → Type 0
AreUnfit None = Unit {0}
AreUnfit (Some ns) = IsUnfit ns

unfit_after : (s : List ℕ) (ns : List (List ℕ)) → IsUnfit ns → IsUnfit (s ∷ ns)
unfit_after s ns (inl e) = inl (or_right (is_empty s) (list_any is_empty ns) e)
unfit_after s ns (inr e) = inr (or_right (has_slash s) (list_any has_slash ns) e)

are_after : (s : List ℕ) (o : Option (List (List ℕ))) → AreUnfit o → AreUnfit (option_map (λ ns. s ∷ ns) o)
are_after s None h = tt
are_after s (Some ns) h = unfit_after s ns h

any_append : (p : ℕ → Bool) (xs ys : List ℕ) → list_any p ys ≡ true → list_any p (xs ++ ys) ≡ true
any_append p [] ys e = e
any_append p (x ∷ xs) ys e = or_right (p x) (list_any p (xs ++ ys)) (any_append p xs ys e)

slash_there : (t : List ℕ) (ss : List (List ℕ)) → has_slash (slashed (t ∷ ss)) ≡ true
slash_there t ss = refl

-- where there are fewer or more
not_all : (ss : List (List ℕ)) (n : ℕ) → (length ss ≡ suc n → ⊥) → AreUnfit (names_from ss n)
not_all [] zero h = inl refl
not_all [] (suc n) h = tt
not_all (s ∷ []) zero h = absurd (h refl)
not_all (s ∷ t ∷ ss) zero h =
    inr (or_first (any_append is_slash s (slashed (t ∷ ss)) (slash_there t ss)))
  where
    or_first : has_slash (joined (s ∷ t ∷ ss)) ≡ true → list_any has_slash (joined (s ∷ t ∷ ss) ∷ []) ≡ true
    or_first e = ap (λ b. b || false) e
not_all (s ∷ ss) (suc n) h = are_after s (names_from ss n) (not_all ss n (λ e. h (ap suc e)))

-- ---- ids

any_after : {A : Type 0} (p : A → Bool) (xs ys : List A) → list_any p ys ≡ true → list_any p (xs ++ ys) ≡ true
any_after p [] ys e = e
any_after p (x ∷ xs) ys e = or_right (p x) (list_any p (xs ++ ys)) (any_after p xs ys e)

not_made : (place : Place) (kind : List ℕ) (ns : List (List ℕ)) → IsUnfit ns → is_made place kind ns ≡ false
not_made place kind ns (inl e) =
    ap (λ b. (not b && ((length (segments kind) == suc (length ns)) && nat_lt 0 (length ns))) && not
    (list_any has_slash ns))
    (or_right (is_empty place.subscription) _ (or_right (is_empty place.group) _ (any_after is_empty
    (segments kind) ns e)))
not_made place kind ns (inr e) =
    ap (λ b. is_whole (made place kind ns) && not b) e ∙ and_false (is_whole (made place kind ns)) false refl

nothing_made : (place : Place) (kind : List ℕ) (o : Option (List (List ℕ))) → AreUnfit o
    → option_and_then (made_whole place kind) o ≡ None
nothing_made place kind None h = refl
nothing_made place kind (Some ns) h = ap (λ b. if b then Some (made place kind ns) else None) (not_made place kind ns h)

-- an id whose name has another number of segments than its type is none
not_whole : (place : Place) (kind : List ℕ) (ns : List (List ℕ)) → (length (segments kind) ≡ suc (length ns) → ⊥)
    → is_whole (made place kind ns) ≡ false
not_whole place kind ns h =
    ap (λ q. not (has_empty_segment (made place kind ns)) && (q && nat_lt 0 (length ns)))
    (unless (length (segments kind) == suc (length ns)) (λ q. h (eq_of_true (length (segments kind)) (suc
    (length ns)) q)))
    ∙ and_false (not (has_empty_segment (made place kind ns))) false refl

if_made : (b c : Bool) (i : ResourceId) → c ≡ true → (if b && c then Some i else None) ≡ (if b then Some i else None)
if_made true c i e = ap (λ c. if c then Some i else None) e
if_made false c i e = refl

-- the id of all segments
pub made_of_segments : (place : Place) (kind t : List ℕ)
    → made_whole place kind (segments t)
    ≡ (if is_whole (made place kind (segments t)) then Some (made place kind (segments t)) else None)
made_of_segments place kind t =
    if_made (is_whole (made place kind (segments t))) (not (list_any has_slash (segments t))) (made place kind
    (segments t))
    (ap not (segments_cut t))

-- the parts of a name make the id that the name makes
pub parts_make : (place : Place) (kind t : List ℕ) (n : ℕ) → length (segments kind) ≡ suc (suc n)
    → option_and_then (made_whole place kind) (names_from (segments t) n)
    ≡ (if is_whole (made place kind (segments t)) then Some (made place kind (segments t)) else None)
parts_make place kind t n h = by_number (length (segments t) == suc n) refl
  where
    other : (length (segments t) == suc n) ≡ false → length (segments t) ≡ suc n → ⊥
    other e q = ne_of_false (length (segments t)) (suc n) e q

    by_number : (b : Bool) → (length (segments t) == suc n) ≡ b
        → option_and_then (made_whole place kind) (names_from (segments t) n)
        ≡ (if is_whole (made place kind (segments t)) then Some (made place kind (segments t)) else None)
    by_number true e =
        ap (option_and_then (made_whole place kind)) (all_names (segments t) n (eq_of_true (length (segments t))
        (suc n) e))
        ∙ made_of_segments place kind t
    by_number false e =
        nothing_made place kind (names_from (segments t) n) (not_all (segments t) n (other e))
        ∙ sym (ap (λ b. if b then Some (made place kind (segments t)) else None)
        (not_whole place kind (segments t) (λ q. other e (one_less q))))
      where
        one_less : length (segments kind) ≡ suc (length (segments t)) → length (segments t) ≡ suc n
        one_less q = omega arith
