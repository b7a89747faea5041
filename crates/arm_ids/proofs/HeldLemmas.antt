-- What is held, in the order of ids.
use Rattle.std.proofs.Common.{◌≡◌, ◌<◌, ◌≤◌, ℕ, zero, suc, length, get_or, take, drop, Bool, true, false, List, []}
use Rattle.std.proofs.Common.{◌∷◌, ◌++◌, map, bytes_eq, encode_utf8_all, refl, sym, ap, ap₂, ◌∙◌, arith, true≢false}
use Rattle.std.proofs.Common.{subst, cond, Option, Some, None, Result, Ok, Err, Ordering, Less, Equal, Greater, ◌⊎◌}
use Rattle.std.proofs.Common.{inl, inr}
use Rattle.std.specs.Ordering.{ordering_reverse, match_ordering, ordering_index}
use Rattle.std.specs.List.{AllByRecursion}
use Rattle.std.specs.List.Sorted.{IsStrictlySortedBy, IsNonDecreasingBy, IsBinarySearchResult, IsSearchInRange}
use Rattle.std.proofs.lemmas.Cmp.{nat_list_cmp_total}
use Rattle.std.proofs.lemmas.List.{take-map, drop-map, take-append-drop, get_or-map, length-map}
use Rattle.std.proofs.lemmas.Bool.{cases_lt}
use Rattle.std.proofs.lemmas.Map.Keys.{Less-from_sorted}
use Rattle.std.proofs.lemmas.Map.Lookups.{exact_bytes}
use Rattle.std.proofs.lemmas.Str.{encodes_same}
use Rattle.std.proofs.lemmas.Slice.Eq.{bytes_eq-Decides}
use Rattle.foundation.proofs.Choices.{cond_false, cond_true}
use Rattle.foundation.proofs.Words.{word_eq}
use Rattle.arm_ids.specs.Id.{HasKey}
use Rattle.arm_ids.specs.Held.{HeldResource, held_by, find, id_cmp, IsInOrder, HaveKeys, put, without, AllBelow}
use Rattle.arm_ids.specs.Held.{AllAbove, IsPlaceOf}

-- ---- the order of ids

id_reverse : (a b : List ℕ) → id_cmp a b ≡ ordering_reverse (id_cmp b a)
unfolding id_cmp
id_reverse a b = nat_list_cmp_total.antisymm (encode_utf8_all a) (encode_utf8_all b)

id_trans : (a b c : List ℕ) → id_cmp a b ≡ Less → id_cmp b c ≡ Less → id_cmp a c ≡ Less
unfolding id_cmp
id_trans a b c e f = nat_list_cmp_total.trans (encode_utf8_all a) (encode_utf8_all b) (encode_utf8_all c) e f

pub id_exact : (a b : List ℕ) → id_cmp a b ≡ Equal → a ≡ b
unfolding id_cmp
id_exact a b e = encodes_same a b (exact_bytes (encode_utf8_all a) (encode_utf8_all b) e)

id_itself : (a b : List ℕ) → a ≡ b → id_cmp a b ≡ Equal
id_itself a b e = ap (id_cmp a) (sym e) ∙ self (id_cmp a a) (id_reverse a a)
  where
    self : (o : Ordering) → o ≡ ordering_reverse o → o ≡ Equal
    self Less h = cc
    self Equal h = refl
    self Greater h = cc

pub id_after : (a b : List ℕ) → id_cmp a b ≡ Less → id_cmp b a ≡ Greater
id_after a b e = id_reverse b a ∙ ap ordering_reverse e

pub id_before : (a b : List ℕ) → id_cmp a b ≡ Greater → id_cmp b a ≡ Less
id_before a b e = id_reverse b a ∙ ap ordering_reverse e

-- two ids of which one is below the other are not equal
apart : (a b : List ℕ) (o : Ordering) → id_cmp a b ≡ o → (o ≡ Equal → ⊥) → bytes_eq a b ≡ false
apart a b o e ne = no (bytes_eq a b) refl
  where
    no : (r : Bool) → bytes_eq a b ≡ r → r ≡ false
    no false h = refl
    no true h = absurd (ne (sym e ∙ id_itself a b ((bytes_eq-Decides a b).0 h)))

below_apart : (a b : List ℕ) → id_cmp a b ≡ Less → bytes_eq a b ≡ false
below_apart a b e = apart a b Less e (λ h. cc)

above_apart : (a b : List ℕ) → id_cmp a b ≡ Greater → bytes_eq a b ≡ false
above_apart a b e = apart a b Greater e (λ h. cc)

-- ---- past what is before an id, and among what is after it

pub find_past : (id : List ℕ) (front rest : List HeldResource) → AllBelow id (map held_by front)
    → find id (front ++ rest) ≡ find id rest
find_past id [] rest h = refl
find_past id (r ∷ rs) rest h =
    cond_false _ _ _ (above_apart id (held_by r) (id_after (held_by r) id h.0)) ∙ find_past id rs rest h.1

pub put_past : (r : HeldResource) (front rest : List HeldResource) → AllBelow (held_by r) (map held_by front)
    → put r (front ++ rest) ≡ front ++ put r rest
put_past r [] rest h = refl
put_past r (s ∷ ss) rest h =
    ap (λ o. match_ordering o (r ∷ s ∷ (ss ++ rest)) (r ∷ (ss ++ rest)) (s ∷ put r (ss ++ rest)))
    (id_after (held_by s) (held_by r) h.0) ∙ ap (λ xs. s ∷ xs) (put_past r ss rest h.1)

pub without_past : (id : List ℕ) (front rest : List HeldResource) → AllBelow id (map held_by front)
    → without id (front ++ rest) ≡ front ++ without id rest
without_past id [] rest h = refl
without_past id (r ∷ rs) rest h =
    cond_false _ _ _ (above_apart id (held_by r) (id_after (held_by r) id h.0))
    ∙ ap (λ xs. r ∷ xs) (without_past id rs rest h.1)

pub find_above : (id : List ℕ) (rest : List HeldResource) → AllAbove id (map held_by rest) → find id rest ≡ None
find_above id [] h = refl
find_above id (r ∷ rs) h = cond_false _ _ _ (below_apart id (held_by r) h.0) ∙ find_above id rs h.1

pub put_above : (r : HeldResource) (rest : List HeldResource) → AllAbove (held_by r) (map held_by rest)
    → put r rest ≡ r ∷ rest
put_above r [] h = refl
put_above r (s ∷ ss) h = ap (λ o. match_ordering o (r ∷ s ∷ ss) (r ∷ ss) (s ∷ put r ss)) h.0

pub without_above : (id : List ℕ) (rest : List HeldResource) → AllAbove id (map held_by rest) → without id rest ≡ rest
without_above id [] h = refl
without_above id (r ∷ rs) h = cond_false _ _ _ (below_apart id (held_by r) h.0) ∙ ap (λ xs. r ∷ xs) (without_above id rs h.1)

-- ---- the order stays

all_put_by : (o : Ordering) (r s : HeldResource) (ss : List HeldResource) (P : List ℕ → Type 0) → P (held_by r)
    → P (held_by s) → AllByRecursion P (map held_by ss) → AllByRecursion P (map held_by (put r ss))
    → AllByRecursion P (map held_by (match_ordering o (r ∷ s ∷ ss) (r ∷ ss) (s ∷ put r ss)))
all_put_by Less r s ss P p q h g = (p, (q, h))
all_put_by Equal r s ss P p q h g = (p, h)
all_put_by Greater r s ss P p q h g = (q, g)

all_put : (r : HeldResource) (rs : List HeldResource) (P : List ℕ → Type 0) → P (held_by r)
    → AllByRecursion P (map held_by rs) → AllByRecursion P (map held_by (put r rs))
all_put r [] P p h = (p, tt)
all_put r (s ∷ ss) P p h = all_put_by (id_cmp (held_by r) (held_by s)) r s ss P p h.0 h.1 (all_put r ss P p h.1)

pub all_further : (a b : List ℕ) (ids : List (List ℕ)) → id_cmp a b ≡ Less → AllAbove b ids → AllAbove a ids
all_further a b [] l h = tt
all_further a b (c ∷ cs) l h = (id_trans a b c l h.0, all_further a b cs l h.1)

all_same : (a b : List ℕ) (ids : List (List ℕ)) → a ≡ b → AllAbove b ids → AllAbove a ids
all_same a b ids e h = let P : List ℕ → Type 0 = λ x. AllAbove x ids in subst P (sym e) h

in_order_by : (o : Ordering) (r s : HeldResource) (ss : List HeldResource) → id_cmp (held_by r) (held_by s) ≡ o
    → IsInOrder (s ∷ ss) → IsInOrder (put r ss) → IsInOrder (match_ordering o (r ∷ s ∷ ss) (r ∷ ss) (s ∷ put r ss))
unfolding IsStrictlySortedBy
in_order_by Less r s ss e h g = ((e, all_further (held_by r) (held_by s) (map held_by ss) e h.0), h)
in_order_by Equal r s ss e h g = (all_same (held_by r) (held_by s) (map held_by ss) (id_exact _ _ e) h.0, h.1)
in_order_by Greater r s ss e h g = (all_put r ss _ (id_before (held_by r) (held_by s) e) h.0, g)

pub IsInOrder-put : (r : HeldResource) (rs : List HeldResource) → IsInOrder rs → IsInOrder (put r rs)
unfolding IsStrictlySortedBy
IsInOrder-put r [] h = (tt, tt)
IsInOrder-put r (s ∷ ss) h = in_order_by (id_cmp (held_by r) (held_by s)) r s ss refl h (IsInOrder-put r ss h.1)

all_without_by : (b : Bool) (id : List ℕ) (r : HeldResource) (rs : List HeldResource) (P : List ℕ → Type 0)
    → P (held_by r) → AllByRecursion P (map held_by rs) → AllByRecursion P (map held_by (without id rs))
    → AllByRecursion P (map held_by (cond b rs (r ∷ without id rs)))
all_without_by true id r rs P p h g = h
all_without_by false id r rs P p h g = (p, g)

all_without : (id : List ℕ) (rs : List HeldResource) (P : List ℕ → Type 0) → AllByRecursion P (map held_by rs)
    → AllByRecursion P (map held_by (without id rs))
all_without id [] P h = tt
all_without id (r ∷ rs) P h = all_without_by (bytes_eq id (held_by r)) id r rs P h.0 h.1 (all_without id rs P h.1)

without_by : (b : Bool) (id : List ℕ) (r : HeldResource) (rs : List HeldResource) → IsInOrder (r ∷ rs)
    → IsInOrder (without id rs) → IsInOrder (cond b rs (r ∷ without id rs))
unfolding IsStrictlySortedBy
without_by true id r rs h g = h.1
without_by false id r rs h g = (all_without id rs _ h.0, g)

pub IsInOrder-without : (id : List ℕ) (rs : List HeldResource) → IsInOrder rs → IsInOrder (without id rs)
unfolding IsStrictlySortedBy
IsInOrder-without id [] h = tt
IsInOrder-without id (r ∷ rs) h = without_by (bytes_eq id (held_by r)) id r rs h (IsInOrder-without id rs h.1)

pub IsInOrder-nil : IsInOrder []
unfolding IsStrictlySortedBy
IsInOrder-nil = tt

-- ---- each id stays the id of a key

have_keys_by : (o : Ordering) (r s : HeldResource) (ss : List HeldResource) → HasKey r.id → HaveKeys (s ∷ ss)
    → HaveKeys (put r ss) → HaveKeys (match_ordering o (r ∷ s ∷ ss) (r ∷ ss) (s ∷ put r ss))
have_keys_by Less r s ss key h g = (key, h)
have_keys_by Equal r s ss key h g = (key, h.1)
have_keys_by Greater r s ss key h g = (h.0, g)

pub HaveKeys-put : (r : HeldResource) (rs : List HeldResource) → HasKey r.id → HaveKeys rs → HaveKeys (put r rs)
HaveKeys-put r [] key h = (key, tt)
HaveKeys-put r (s ∷ ss) key h =
    have_keys_by (id_cmp (held_by r) (held_by s)) r s ss key h (HaveKeys-put r ss key h.1)

keys_without_by : (b : Bool) (r : HeldResource) (rs rest : List HeldResource) → HaveKeys (r ∷ rs) → HaveKeys rest
    → HaveKeys (cond b rs (r ∷ rest))
keys_without_by true r rs rest h g = h.1
keys_without_by false r rs rest h g = (h.0, g)

pub HaveKeys-without : (id : List ℕ) (rs : List HeldResource) → HaveKeys rs → HaveKeys (without id rs)
HaveKeys-without id [] h = tt
HaveKeys-without id (r ∷ rs) h =
    keys_without_by (bytes_eq id (held_by r)) r rs (without id rs) h (HaveKeys-without id rs h.1)

-- ---- what is found after a change

put_equal : (id : List ℕ) (r s : HeldResource) (found : Option HeldResource) (b c : Bool) → b ≡ c
    → cond b (Some r) found ≡ cond b (Some r) (cond c (Some s) found)
put_equal id r s found true true e = refl
put_equal id r s found false false e = refl
put_equal id r s found true false e = absurd (true≢false e)
put_equal id r s found false true e = absurd (true≢false (sym e))

put_greater : (r s : HeldResource) (found : Option HeldResource) (b c : Bool) → (b ≡ true → c ≡ true → ⊥)
    → cond c (Some s) (cond b (Some r) found) ≡ cond b (Some r) (cond c (Some s) found)
put_greater r s found true true h = absurd (h refl refl)
put_greater r s found true false h = refl
put_greater r s found false c h = refl

find-put_by : (o : Ordering) (id : List ℕ) (r s : HeldResource) (ss : List HeldResource)
    → id_cmp (held_by r) (held_by s) ≡ o → find id (put r ss) ≡ cond (bytes_eq id (held_by r)) (Some r) (find id ss)
    → find id (match_ordering o (r ∷ s ∷ ss) (r ∷ ss) (s ∷ put r ss)) ≡ cond (bytes_eq id (held_by r)) (Some r)
    (find id (s ∷ ss))
find-put_by Less id r s ss e h = refl
find-put_by Equal id r s ss e h = put_equal id r s (find id ss) (bytes_eq id (held_by r)) (bytes_eq id (held_by s))
    (ap (bytes_eq id) (id_exact _ _ e))
find-put_by Greater id r s ss e h =
    ap (cond (bytes_eq id (held_by s)) (Some s)) h
    ∙ put_greater r s (find id ss) (bytes_eq id (held_by r)) (bytes_eq id (held_by s))
    (λ x y. let same : held_by r ≡ held_by s = sym ((bytes_eq-Decides id (held_by r)).0 x)
    ∙ (bytes_eq-Decides id (held_by s)).0 y in let both : Greater ≡ Equal = sym e ∙ id_itself _ _ same in cc)

-- what was put is found by its id, and every other resource as before
pub find-put : (id : List ℕ) (r : HeldResource) (rs : List HeldResource)
    → find id (put r rs) ≡ cond (bytes_eq id (held_by r)) (Some r) (find id rs)
find-put id r [] = refl
find-put id r (s ∷ ss) = find-put_by (id_cmp (held_by r) (held_by s)) id r s ss refl (find-put id r ss)

without_here : (x : List ℕ) (r : HeldResource) (rs : List HeldResource) (b : Bool) → bytes_eq x (held_by r) ≡ b
    → AllAbove (held_by r) (map held_by rs) → find x rs ≡ cond b None (cond b (Some r) (find x rs))
without_here x r rs true e h =
    find_above x rs (all_same x (held_by r) (map held_by rs) ((bytes_eq-Decides x (held_by r)).0 e) h)
without_here x r rs false e h = refl

none_then : (r : HeldResource) (found : Option HeldResource) (b c : Bool) → (b ≡ true → c ≡ true → ⊥)
    → cond c (Some r) (cond b None found) ≡ cond b None (cond c (Some r) found)
none_then r found true true h = absurd (h refl refl)
none_then r found true false h = refl
none_then r found false c h = refl

find-without_by : (b : Bool) (id x : List ℕ) (r : HeldResource) (rs : List HeldResource) → bytes_eq id (held_by r) ≡ b
    → AllAbove (held_by r) (map held_by rs) → find x (without id rs) ≡ cond (bytes_eq x id) None (find x rs)
    → find x (cond b rs (r ∷ without id rs)) ≡ cond (bytes_eq x id) None (find x (r ∷ rs))
find-without_by true id x r rs e above h =
    let same : id ≡ held_by r = (bytes_eq-Decides id (held_by r)).0 e in
    without_here x r rs (bytes_eq x (held_by r)) refl above
    ∙ ap (λ i. cond (bytes_eq x i) None (find x (r ∷ rs))) (sym same)
find-without_by false id x r rs e above h =
    ap (cond (bytes_eq x (held_by r)) (Some r)) h
    ∙ none_then r (find x rs) (bytes_eq x id) (bytes_eq x (held_by r))
    (λ a b. true≢false
    (sym (word_eq id (held_by r) (sym ((bytes_eq-Decides x id).0 a) ∙ (bytes_eq-Decides x (held_by r)).0 b)) ∙ e))

nothing : (b : Bool) → let none : Option HeldResource = None in none ≡ cond b none none
nothing true = refl
nothing false = refl

-- what was removed is not found, and every other resource as before
pub find-without : (id x : List ℕ) (rs : List HeldResource) → IsInOrder rs
    → find x (without id rs) ≡ cond (bytes_eq x id) None (find x rs)
unfolding IsStrictlySortedBy
find-without id x [] h = nothing (bytes_eq x id)
find-without id x (r ∷ rs) h = find-without_by (bytes_eq id (held_by r)) id x r rs refl h.0 (find-without id x rs h.1)

-- ---- at the place of an id

all_at : (P : List ℕ → Type 0) (rs : List HeldResource) (i : ℕ) (x : HeldResource) → i < length rs → x ≡ get_or rs i x
    → AllByRecursion P (map held_by rs) → P (held_by x)
all_at P [] i x l e h = absurd (omega (arith, l))
all_at P (r ∷ rs) zero x l e h = subst (λ y. P (held_by y)) (sym e) h.0
all_at P (r ∷ rs) (suc i) x l e h = all_at P rs i x (omega arith) e h.1

pub find_at : (id : List ℕ) (rs : List HeldResource) (i : ℕ) (x : HeldResource) → IsInOrder rs → i < length rs
    → x ≡ get_or rs i x → held_by x ≡ id → find id rs ≡ Some x
unfolding IsStrictlySortedBy
find_at id [] i x h l e same = absurd (omega (arith, l))
find_at id (r ∷ rs) zero x h l e same =
    cond_true _ _ _ (word_eq id (held_by r) (sym same ∙ ap held_by e)) ∙ ap Some (sym e)
find_at id (r ∷ rs) (suc i) x h l e same =
    let before : id_cmp (held_by r) id ≡ Less = ap (id_cmp (held_by r)) (sym same)
    ∙ all_at (λ y. id_cmp (held_by r) y ≡ Less) rs i x (omega arith) e h.0 in
    cond_false _ _ _ (above_apart id (held_by r) (id_after (held_by r) id before))
    ∙ find_at id rs i x h.1 (omega arith) e same

pub put_at : (r : HeldResource) (rs : List HeldResource) (i : ℕ) (x : HeldResource) → IsInOrder rs → i < length rs
    → x ≡ get_or rs i x → held_by x ≡ held_by r → put r rs ≡ take i rs ++ r ∷ drop (suc i) rs
unfolding IsStrictlySortedBy
put_at r [] i x h l e same = absurd (omega (arith, l))
put_at r (s ∷ ss) zero x h l e same =
    ap (λ o. match_ordering o (r ∷ s ∷ ss) (r ∷ ss) (s ∷ put r ss))
    (id_itself (held_by r) (held_by s) (sym same ∙ ap held_by e))
put_at r (s ∷ ss) (suc i) x h l e same =
    let before : id_cmp (held_by s) (held_by r) ≡ Less = ap (id_cmp (held_by s)) (sym same)
    ∙ all_at (λ y. id_cmp (held_by s) y ≡ Less) ss i x (omega arith) e h.0 in
    ap (λ o. match_ordering o (r ∷ s ∷ ss) (r ∷ ss) (s ∷ put r ss)) (id_after (held_by s) (held_by r) before)
    ∙ ap (λ xs. s ∷ xs) (put_at r ss i x h.1 (omega arith) e same)

pub without_at : (id : List ℕ) (rs : List HeldResource) (i : ℕ) (x : HeldResource) → IsInOrder rs → i < length rs
    → x ≡ get_or rs i x → held_by x ≡ id → without id rs ≡ take i rs ++ drop (suc i) rs
unfolding IsStrictlySortedBy
without_at id [] i x h l e same = absurd (omega (arith, l))
without_at id (r ∷ rs) zero x h l e same = cond_true _ _ _ (word_eq id (held_by r) (sym same ∙ ap held_by e))
without_at id (r ∷ rs) (suc i) x h l e same =
    let before : id_cmp (held_by r) id ≡ Less = ap (id_cmp (held_by r)) (sym same)
    ∙ all_at (λ y. id_cmp (held_by r) y ≡ Less) rs i x (omega arith) e h.0 in
    cond_false _ _ _ (above_apart id (held_by r) (id_after (held_by r) id before))
    ∙ ap (λ xs. r ∷ xs) (without_at id rs i x h.1 (omega arith) e same)

-- an id that has no place among those that are held
pub record IsGap (id : List ℕ) (rs : List HeldResource) (i : ℕ) : Type 0 where
  pub below : AllBelow id (map held_by (take i rs))
  pub above : AllAbove id (map held_by (drop i rs))

pub gap : (id : List ℕ) (ids : List (List ℕ)) (rs : List HeldResource) (i : ℕ) → ids ≡ map held_by rs
    → IsPlaceOf id ids (Err i) → IsGap id rs i
gap id ids rs i e h = record {
  below = subst (AllBelow id) (ap (take i) e ∙ take-map held_by i rs) h.1;
  above = subst (AllAbove id) (ap (drop i) e ∙ drop-map held_by i rs) h.2;
}

pub find_gap : (id : List ℕ) (rs : List HeldResource) (i : ℕ) → IsGap id rs i → find id rs ≡ None
find_gap id rs i h =
    ap (find id) (sym (take-append-drop i rs)) ∙ find_past id (take i rs) (drop i rs) h.below
    ∙ find_above id (drop i rs) h.above

pub put_gap : (r : HeldResource) (rs : List HeldResource) (i : ℕ) → IsGap (held_by r) rs i
    → put r rs ≡ take i rs ++ r ∷ drop i rs
put_gap r rs i h =
    ap (put r) (sym (take-append-drop i rs)) ∙ put_past r (take i rs) (drop i rs) h.below
    ∙ ap (λ xs. take i rs ++ xs) (put_above r (drop i rs) h.above)

pub without_gap : (id : List ℕ) (rs : List HeldResource) (i : ℕ) → IsGap id rs i → without id rs ≡ rs
without_gap id rs i h =
    ap (without id) (sym (take-append-drop i rs)) ∙ without_past id (take i rs) (drop i rs) h.below
    ∙ ap (λ xs. take i rs ++ xs) (without_above id (drop i rs) h.above) ∙ take-append-drop i rs

-- ---- the search

index_rises : (a b id : List ℕ) (o p : Ordering) → id_cmp a b ≡ Less → id_cmp a id ≡ o → id_cmp b id ≡ p
    → ordering_index o ≤ ordering_index p
index_rises a b id Less p l e f = omega arith
index_rises a b id Equal Less l e f = let both : Less ≡ Equal = sym (id_trans a b id l f) ∙ e in cc
index_rises a b id Equal Equal l e f = omega arith
index_rises a b id Equal Greater l e f = omega arith
index_rises a b id Greater Less l e f = let both : Less ≡ Greater = sym (id_trans a b id l f) ∙ e in cc
index_rises a b id Greater Equal l e f =
    let same : id_cmp a id ≡ Less = ap (id_cmp a) (sym (id_exact b id f)) ∙ l in
    let both : Less ≡ Greater = sym same ∙ e in
    cc
index_rises a b id Greater Greater l e f = omega arith

ordered : {X : Type 0} (key : X → List ℕ) (xs : List X) (id : List ℕ) (i j : ℕ) (d : X)
    → IsStrictlySortedBy id_cmp (map key xs) → i < j → j < length xs
    → ordering_index (id_cmp (key (get_or xs i d)) id) ≤ ordering_index (id_cmp (key (get_or xs j d)) id)
ordered key xs id i j d h l m =
    let first : get_or (map key xs) i (key d) ≡ key (get_or xs i d) = get_or-map key xs i d (key d) (omega arith) in
    let second : get_or (map key xs) j (key d) ≡ key (get_or xs j d) = get_or-map key xs j d (key d) m in
    let less : id_cmp (get_or (map key xs) i (key d)) (get_or (map key xs) j (key d)) ≡ Less =
    Less-from_sorted id_cmp (map key xs) i j (key d) h l (omega (arith, length-map xs key)) in
    index_rises (key (get_or xs i d)) (key (get_or xs j d)) id _ _ (ap₂ id_cmp (sym first) (sym second)
    ∙ less) refl refl

rises : {X : Type 0} (key : X → List ℕ) (xs : List X) (id : List ℕ) → IsStrictlySortedBy id_cmp (map key xs)
    → IsNonDecreasingBy (λ x. ordering_index (id_cmp (key x) id)) xs
rises key xs id h i j d l m = by_cases (cases_lt i j)
  where
    by_cases : (i < j) ⊎ (j ≤ i)
        → ordering_index (id_cmp (key (get_or xs i d)) id) ≤ ordering_index (id_cmp (key (get_or xs j d)) id)
    by_cases (inl less) = ordered key xs id i j d h less m
    by_cases (inr more) = let same : i ≡ j = omega arith in
        subst (λ k. ordering_index (id_cmp (key (get_or xs i d)) id) ≤ ordering_index
        (id_cmp (key (get_or xs k d)) id)) same (omega arith)

all_take : {X : Type 0} (key : X → List ℕ) (P : List ℕ → Type 0) (xs : List X) (i : ℕ) → i ≤ length xs
    → ((k : ℕ) (d : X) → k < i → P (key (get_or xs k d))) → AllByRecursion P (take i (map key xs))
all_take key P [] zero l h = tt
all_take key P [] (suc i) l h = tt
all_take key P (x ∷ xs) zero l h = tt
all_take key P (x ∷ xs) (suc i) l h =
    (h 0 x (omega arith), all_take key P xs i (omega arith) (λ k d m. h (suc k) d (omega arith)))

all_drop : {X : Type 0} (key : X → List ℕ) (P : List ℕ → Type 0) (xs : List X) (i : ℕ)
    → ((k : ℕ) (d : X) → i ≤ k → k < length xs → P (key (get_or xs k d))) → AllByRecursion P (drop i (map key xs))
all_drop key P [] zero h = tt
all_drop key P [] (suc i) h = tt
all_drop key P (x ∷ xs) zero h =
    (h 0 x (omega arith) (omega arith), all_drop key P xs zero (λ k d l m. h (suc k) d (omega arith) (omega arith)))
all_drop key P (x ∷ xs) (suc i) h = all_drop key P xs i (λ k d l m. h (suc k) d (omega arith) (omega arith))

-- where a binary search ends
pub searched : {X : Type 0} (key : X → List ℕ) (xs : List X) (id : List ℕ) (r : Result ℕ ℕ)
    → IsStrictlySortedBy id_cmp (map key xs) → IsSearchInRange r (length xs)
    → IsBinarySearchResult (λ x. id_cmp (key x) id) xs r → IsPlaceOf id (map key xs) r
searched key [] id (Ok i) h bound found = absurd (omega (arith, bound))
searched key (x ∷ xs) id (Ok i) h bound found = (
  omega (arith, length-map (x ∷ xs) key, bound),
  get_or-map key (x ∷ xs) i x id bound
      ∙ id_exact (key (get_or (x ∷ xs) i x)) id (found x),
)
searched key xs id (Err i) h bound found =
    let point = found (rises key xs id h) in (
      omega (arith, length-map xs key, bound),
      all_take key (λ other. id_cmp other id ≡ Less) xs i bound (λ k d l. point.0 k d (omega arith) l),
      all_drop key (λ other. id_cmp id other ≡ Less) xs i
          (λ k d l m. id_before (key (get_or xs k d)) id (point.1 k d l m)),
    )
