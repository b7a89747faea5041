-- The numbers of tasks, as one task more is numbered.
use Rattle.std.proofs.Common.{◌≡◌, ◌⊎◌, inl, inr, ℕ, zero, suc, ◌+◌, ◌<◌, ◌≤◌, Bool, true, false, true≢false, List, []}
use Rattle.std.proofs.Common.{◌∷◌, ◌++◌, map, take, drop, length, get_or, is_some, ◌&&◌, Option, Some, None}
use Rattle.std.proofs.Common.{refl, sym, ap, subst, ◌∙◌, arith}
use Rattle.std.specs.Prelude.{slice_get, option_map, if◌then◌else◌, Decides, MatchOption}
use Rattle.std.proofs.lemmas.Slice.Eq.{bytes_eq-Decides}
use Rattle.foundation.proofs.TruthValues.{both, and_true}
use Rattle.arm_ids.specs.declared.id.ResourceId.{ResourceId}
use Rattle.std.proofs.lemmas.List.{map-append, take_more, take-append-drop}
use Rattle.std.proofs.lemmas.Option.{same_Some, slice_get_within}
use Rattle.foundation.proofs.Lists.{got_last}
use Rattle.foundation.proofs.Comparisons.{lt_or_is}
use Rattle.key_tags.specs.KeyCodes.{key_code}
use Rattle.tag_places.proofs.PlaceLemmas.{untagged}
use Rattle.tag_places.specs.Places.{Tag, is_tag, first_place, Places, ArePlaces}
use Rattle.history_plans.specs.Task.{Task}
use Rattle.history_plans.specs.Task.TheVariants.{Enter, Put, Leave, Delete}
use Rattle.reading.specs.World.{Each}
use Rattle.plan_table.specs.declared.table.Table.{Table}
use Rattle.plan_numbers.specs.declared.numbers.Numbers.{Numbers}
use Rattle.plan_numbers.specs.Numbers.{key_tag, put_tag, puts_in, put_tags, AreApart, enter_tag, leave_tag, HasPlace}
use Rattle.plan_numbers.specs.Numbers.{IsOfTable, HaveOwnKeys, AreOfScopes, AreNumbers}
use Rattle.plan_numbers.specs.Steps.{IsNumbered, IsAdded, AreListed, IsNumberOf}

-- ---- lists

get_dropped : (ks : List ResourceId) (n : ℕ) → slice_get (drop 1 ks) n ≡ slice_get ks (suc n)
get_dropped [] zero = refl
get_dropped [] (suc n) = refl
get_dropped (k ∷ ks) n = refl

-- one task more
pub tags_more : (us : List Task) (t : Task) (ks : List ResourceId)
    → put_tags (us ++ t ∷ []) ks ≡ put_tags us ks ++ put_tag t (slice_get ks (puts_in us)) ∷ []
tags_more [] (Enter f) ks = refl
tags_more [] (Put f r i) ks = refl
tags_more [] (Leave f) ks = refl
tags_more [] (Delete k) ks = refl
tags_more (Enter f ∷ us) t ks = ap (λ os. None ∷ os) (tags_more us t ks)
tags_more (Leave f ∷ us) t ks = ap (λ os. None ∷ os) (tags_more us t ks)
tags_more (Delete k ∷ us) t ks = ap (λ os. None ∷ os) (tags_more us t ks)
tags_more (Put f r i ∷ us) t ks =
    ap (λ os. key_tag (slice_get ks 0) ∷ os)
    (tags_more us t (drop 1 ks)
    ∙ ap (λ o. put_tags us (drop 1 ks) ++ put_tag t o ∷ []) (get_dropped ks (puts_in us)))

pub tags_length : (us : List Task) (ks : List ResourceId) → length (put_tags us ks) ≡ length us
tags_length [] ks = refl
tags_length (Enter f ∷ us) ks = ap suc (tags_length us ks)
tags_length (Leave f ∷ us) ks = ap suc (tags_length us ks)
tags_length (Delete k ∷ us) ks = ap suc (tags_length us ks)
tags_length (Put f r i ∷ us) ks = ap suc (tags_length us (drop 1 ks))

abbrev pub one_put : Task → ℕ
one_put (Put f r i) = 1
one_put (Enter f) = 0
one_put (Leave f) = 0
one_put (Delete k) = 0

pub puts_more : (us : List Task) (t : Task) → puts_in (us ++ t ∷ []) ≡ puts_in us + one_put t
puts_more [] (Enter f) = refl
puts_more [] (Put f r i) = refl
puts_more [] (Leave f) = refl
puts_more [] (Delete k) = refl
puts_more (Enter f ∷ us) t = puts_more us t
puts_more (Leave f ∷ us) t = puts_more us t
puts_more (Delete k ∷ us) t = puts_more us t
puts_more (Put f r i ∷ us) t =
    ap suc (puts_more us t)
    ∙ (let e : suc (puts_in us + one_put t) ≡ suc (puts_in us) + one_put t = omega arith in e)

pub puts_few : (us : List Task) → puts_in us ≤ length us
puts_few [] = omega arith
puts_few (Enter f ∷ us) = let h = puts_few us in omega (arith, h)
puts_few (Leave f ∷ us) = let h = puts_few us in omega (arith, h)
puts_few (Delete k ∷ us) = let h = puts_few us in omega (arith, h)
puts_few (Put f r i ∷ us) = let h = puts_few us in omega (arith, h)

-- ---- places apart

got_in_more : {A : Type 0} (xs : List A) (x : A) (i : ℕ) (y : A) → slice_get (xs ++ x ∷ []) i ≡ Some y
    → (slice_get xs i ≡ Some y) ⊎ ((i ≡ length xs) × (x ≡ y))
got_in_more [] x zero y e = inr (refl, (let f : Some x ≡ Some y = e in cc))
got_in_more [] x (suc i) y e = let f : None ≡ Some y = e in absurd (cc)
got_in_more (z ∷ xs) x zero y e = inl e
got_in_more (z ∷ xs) x (suc i) y e = elim (got_in_more xs x i y e) [
  | inl h ↦ inl h
  | inr h ↦ inr (ap suc h.0, h.1)
]

no_tag : (t : Tag) → None ≡ Some t → ⊥
no_tag t e = cc

pub apart_untagged : (os : List (Option Tag)) → AreApart os → AreApart (os ++ None ∷ [])
apart_untagged os a i j t e f =
    elim (got_in_more os None i (Some t) e) [
      | inr h ↦ absurd (no_tag t h.1)
      | inl h ↦ elim (got_in_more os None j (Some t) f) [ inr g ↦ absurd (no_tag t g.1) | inl g ↦ a i j t h g ]
    ]

-- a tag that a place has is found
found_some : (t : Tag) (os : List (Option Tag)) (i : ℕ) → slice_get os i ≡ Some (Some t) → first_place t os ≡ None → ⊥
found_some t [] i e f = let g : None ≡ Some (Some t) = e in absurd (cc)
found_some t (o ∷ os) zero e f =
    let same : o ≡ Some t = (let g : Some o ≡ Some (Some t) = e in cc) in
    by_test (is_tag t o) (ap (is_tag t) same ∙ (bytes_eq-Decides t t).1 refl) f
  where
    by_test : (b : Bool) → b ≡ true → (if b then Some zero else option_map (λ n. suc n) (first_place t os)) ≡ None → ⊥
    by_test true e g = let h : Some zero ≡ None = g in cc
    by_test false e g = true≢false (sym e)
found_some t (o ∷ os) (suc i) e f = by_test (found_some t os i e) (is_tag t o) f
  where
    further : (p : Option ℕ) → option_map (λ n. suc n) p ≡ None → p ≡ None
    further None g = refl
    further (Some n) g = let h : Some (suc n) ≡ None = g in absurd (cc)

    by_test : (first_place t os ≡ None → ⊥) → (b : Bool)
        → (if b then Some zero else option_map (λ n. suc n) (first_place t os)) ≡ None → ⊥
    by_test more true g = let h : Some zero ≡ None = g in cc
    by_test more false g = more (further (first_place t os) g)

-- a place that is found has the tag
tagged : (t : Tag) (o : Option Tag) → is_tag t o ≡ true → o ≡ Some t
tagged t None e = absurd (true≢false (sym e))
tagged t (Some u) e = ap Some (sym ((bytes_eq-Decides t u).0 e))

abbrev pub HasTag : Tag → List (Option Tag) → ℕ → Type 0
HasTag t os i = (i < length os) × (slice_get os i ≡ Some (Some t))

pub first_has : (t : Tag) (os : List (Option Tag)) (i : ℕ) → first_place t os ≡ Some i → HasTag t os i
first_has t [] i e = let f : None ≡ Some i = e in absurd (cc)
first_has t (o ∷ os) i e = by_test (λ n f. first_has t os n f) (is_tag t o) refl e
  where
    by_rest : ((n : ℕ) → first_place t os ≡ Some n → HasTag t os n) → (p : Option ℕ) → first_place t os ≡ p
        → option_map (λ n. suc n) p ≡ Some i → HasTag t (o ∷ os) i
    by_rest more None f g = let h : None ≡ Some i = g in absurd (cc)
    by_rest more (Some n) f g =
        let h : suc n ≡ i = (let k : Some (suc n) ≡ Some i = g in cc) in
        let m = more n f in
        let l = m.0 in
        subst (λ (k : ℕ). HasTag t (o ∷ os) k) h (omega (arith, l), m.1)

    by_test : ((n : ℕ) → first_place t os ≡ Some n → HasTag t os n) → (b : Bool) → is_tag t o ≡ b
        → (if b then Some zero else option_map (λ n. suc n) (first_place t os)) ≡ Some i → HasTag t (o ∷ os) i
    by_test more true f g =
        let h : zero ≡ i = (let k : Some zero ≡ Some i = g in cc) in
        subst (λ (k : ℕ). HasTag t (o ∷ os) k) h (omega arith, ap Some (tagged t o f))
    by_test more false f g = by_rest more (first_place t os) refl g

get_front : {A : Type 0} (xs ys : List A) (i : ℕ) (y : A) → slice_get xs i ≡ Some y → slice_get (xs ++ ys) i ≡ Some y
get_front [] ys i y e = let f : None ≡ Some y = e in absurd (cc)
get_front (x ∷ xs) ys zero y e = e
get_front (x ∷ xs) ys (suc i) y e = get_front xs ys i y e

-- a tag that is there already is not apart
not_apart : (os : List (Option Tag)) (u : Tag) (i : ℕ) → first_place u os ≡ Some i → AreApart (os ++ Some u ∷ []) → ⊥
not_apart os u i e a =
    let h = first_has u os i e in
    let l = h.0 in
    let same : i ≡ length os
    = a i (length os) u (get_front os (Some u ∷ []) i (Some u) h.1) (got_last os (Some u)) in
    omega (arith, l, same)

pub key_refused : (os : List (Option Tag)) (tag : List ℕ) (k : ResourceId) (o : Option ℕ) (i : ℕ) → tag ≡ key_code k
    → o ≡ first_place tag os → o ≡ Some i → AreApart (os ++ key_tag (Some k) ∷ []) → ⊥
key_refused os tag k o i e f g =
    not_apart os (key_code k) i (ap (λ u. first_place u os) (sym e) ∙ sym f ∙ g)

pub apart_new : (os : List (Option Tag)) (u : Tag) → first_place u os ≡ None → AreApart os
    → AreApart (os ++ Some u ∷ [])
apart_new os u n a i j t e f =
    elim (got_in_more os (Some u) i (Some t) e) [
      | inl h ↦ elim (got_in_more os (Some u) j (Some t) f) [
        | inl g ↦ a i j t h g
        | inr g ↦ absurd (found_some u os i (h ∙ ap (λ (z : Tag). Some (Some z)) (sym (same_Some u t g.1))) n)
      ]
      | inr h ↦ elim (got_in_more os (Some u) j (Some t) f) [
        | inl g ↦ absurd (found_some u os j (g ∙ ap (λ (z : Tag). Some (Some z)) (sym (same_Some u t h.1))) n)
        | inr g ↦ h.0 ∙ sym g.0
      ]
    ]

-- the number of the place of a tag
pub number_is : (t : Tag) (os : List (Option Tag)) (o r : Option ℕ) → IsNumberOf o r → o ≡ first_place t os
    → length os ≤ 4294967295 → r ≡ first_place t os
number_is t os None r n e few = n ∙ e
number_is t os (Some u) r n e few =
    let h = first_has t os u (sym e) in
    let l = h.0 in
    n (omega (arith, l, few)) ∙ e

-- ---- one task more

-- a task that puts nothing
pub numbered_other : (m : Places) (us : List Task) (t : Task) (ks : List ResourceId) → IsNumbered m us ks
    → ((o : Option ResourceId) → put_tag t o ≡ None) → one_put t ≡ 0 → (ArePlaces m (put_tags us ks)
    → ArePlaces m (put_tags us ks ++ None ∷ [])) → IsNumbered m (us ++ t ∷ []) ks
numbered_other m us t ks n h z untagged =
    let e : put_tags (us ++ t ∷ []) ks ≡ put_tags us ks ++ None ∷ []
    = tags_more us t ks ∙ ap (λ o. put_tags us ks ++ o ∷ []) (h (slice_get ks (puts_in us))) in
    record {
      places = subst (λ (os : List (Option Tag)). ArePlaces m os) (sym e) (untagged n.places);
      keys = record {
        enough = let l = n.keys.enough in let p = puts_more us t in omega (arith, l, p, z);
        apart = subst (λ (os : List (Option Tag)). AreApart os) (sym e)
            (apart_untagged (put_tags us ks) n.keys.apart);
      };
    }

-- a put
pub numbered_put : (m n : Places) (us : List Task) (f r i : ℕ) (ks : List ResourceId) (k : ResourceId)
    → IsNumbered m us ks → slice_get ks (puts_in us) ≡ Some k → IsAdded (put_tags us ks) (Some k) n
    → IsNumbered n (us ++ Put f r i ∷ []) ks
numbered_put m n us f r i ks k b e a =
    let g : put_tags (us ++ Put f r i ∷ []) ks ≡ put_tags us ks ++ key_tag (Some k) ∷ []
    = tags_more us (Put f r i) ks ∙ ap (λ o. put_tags us ks ++ key_tag o ∷ []) e in
    record {
      places = subst (λ (os : List (Option Tag)). ArePlaces n os) (sym g) a.places;
      keys = record {
        enough = let l = slice_get_within ks (puts_in us) k e in let p = puts_more us (Put f r i) in omega (arith, l, p);
        apart = subst (λ (os : List (Option Tag)). AreApart os) (sym g) (a.apart b.keys.apart);
      };
    }

-- a put, as the code numbers it
pub put_numbered : (m n : Places) (us : List Task) (t : Task) (f r i used : ℕ) (ks : List ResourceId) (k : ResourceId)
    → t ≡ Put f r i → used ≡ puts_in us → slice_get ks used ≡ Some k → IsNumbered m us ks
    → IsAdded (put_tags us ks) (Some k) n
    → IsNumbered n (us ++ t ∷ []) ks × (used + 1 ≡ puts_in (us ++ t ∷ []))
put_numbered m n us t f r i used ks k e u g b a = (
  subst (λ (y : Task). IsNumbered n (us ++ y ∷ []) ks) (sym e)
      (numbered_put m n us f r i ks k b (ap (slice_get ks) (sym u) ∙ g) a),
  ap (λ x. x + 1) u ∙ sym (puts_more us (Put f r i)) ∙ ap (λ (y : Task). puts_in (us ++ y ∷ [])) (sym e),
)

-- any other task
pub other_numbered : (m : Places) (us : List Task) (t y : Task) (used : ℕ) (ks : List ResourceId) → t ≡ y
    → ((o : Option ResourceId) → put_tag y o ≡ None) → one_put y ≡ 0 → used ≡ puts_in us → IsNumbered m us ks
    → IsNumbered m (us ++ t ∷ []) ks × (used ≡ puts_in (us ++ t ∷ []))
other_numbered m us t y used ks e h z u b = (
  subst (λ (x : Task). IsNumbered m (us ++ x ∷ []) ks) (sym e)
      (numbered_other m us y ks b h z (untagged m (put_tags us ks))),
  u ∙ (let p : puts_in us ≡ puts_in us + 0 = omega arith in p) ∙ ap (λ x. puts_in us + x) (sym z)
      ∙ sym (puts_more us y) ∙ ap (λ (x : Task). puts_in (us ++ x ∷ [])) (sym e),
)

-- a key that is added where no place has its tag
pub key_added : (m : Places) (os : List (Option Tag)) (tag : List ℕ) (k : ResourceId) → tag ≡ key_code k
    → first_place tag os ≡ None → ArePlaces m (os ++ Some tag ∷ []) → IsAdded os (Some k) m
key_added m os tag k e n a =
    record {
      places = subst (λ (u : Tag). ArePlaces m (os ++ Some u ∷ [])) e a;
      apart = λ b. apart_new os (key_code k) (ap (λ u. first_place u os) (sym e) ∙ n) b;
    }

-- ---- tasks that have no keys of their own

-- a put at a key of another
pub put_refused : (us : List Task) (t : Task) (f r i used : ℕ) (ks : List ResourceId) (k : ResourceId) → t ≡ Put f r i
    → used ≡ puts_in us → slice_get ks used ≡ Some k → (AreApart (put_tags us ks ++ key_tag (Some k) ∷ []) → ⊥)
    → HaveOwnKeys (us ++ t ∷ []) ks → ⊥
put_refused us t f r i used ks k e u g n o =
    let h : put_tags (us ++ Put f r i ∷ []) ks ≡ put_tags us ks ++ key_tag (Some k) ∷ []
    = tags_more us (Put f r i) ks ∙ ap (λ p. put_tags us ks ++ key_tag p ∷ []) (ap (slice_get ks) (sym u) ∙ g) in
    n (subst (λ (os : List (Option Tag)). AreApart os) h
    (subst (λ (y : Task). AreApart (put_tags (us ++ y ∷ []) ks)) e o.apart))

-- a put whose key is missing
pub put_without_key : (us : List Task) (t : Task) (f r i used : ℕ) (ks : List ResourceId) → t ≡ Put f r i
    → used ≡ puts_in us → length ks ≤ used → HaveOwnKeys (us ++ t ∷ []) ks → ⊥
put_without_key us t f r i used ks e u l o =
    let m = o.enough in
    let p : puts_in (us ++ t ∷ []) ≡ puts_in us + 1
    = puts_more us t ∙ ap (λ (y : Task). puts_in us + one_put y) e in
    omega (arith, m, p, l, u)

-- the first tasks have keys of their own, where all have
tags_front : (us vs : List Task) (ks : List ResourceId) (i : ℕ) (o : Option Tag)
    → slice_get (put_tags us ks) i ≡ Some o → slice_get (put_tags (us ++ vs) ks) i ≡ Some o
tags_front [] vs ks i o e = let f : None ≡ Some o = e in absurd (cc)
tags_front (Enter f ∷ us) vs ks zero o e = e
tags_front (Put f r n ∷ us) vs ks zero o e = e
tags_front (Leave f ∷ us) vs ks zero o e = e
tags_front (Delete k ∷ us) vs ks zero o e = e
tags_front (Enter f ∷ us) vs ks (suc i) o e = tags_front us vs ks i o e
tags_front (Put f r n ∷ us) vs ks (suc i) o e = tags_front us vs (drop 1 ks) i o e
tags_front (Leave f ∷ us) vs ks (suc i) o e = tags_front us vs ks i o e
tags_front (Delete k ∷ us) vs ks (suc i) o e = tags_front us vs ks i o e

puts_front : (us vs : List Task) → puts_in us ≤ puts_in (us ++ vs)
puts_front [] vs = omega arith
puts_front (Enter f ∷ us) vs = puts_front us vs
puts_front (Put f r i ∷ us) vs = let h = puts_front us vs in omega (arith, h)
puts_front (Leave f ∷ us) vs = puts_front us vs
puts_front (Delete k ∷ us) vs = puts_front us vs

own_front : (us vs : List Task) (ks : List ResourceId) → HaveOwnKeys (us ++ vs) ks → HaveOwnKeys us ks
own_front us vs ks o = record {
  enough = let l = o.enough in let p = puts_front us vs in omega (arith, l, p);
  apart = λ i j t e f. o.apart i j t (tags_front us vs ks i (Some t) e) (tags_front us vs ks j (Some t) f);
}

pub not_own : (us : List Task) (n : ℕ) (u : Task) (ks : List ResourceId) → n < length us → u ≡ get_or us n u
    → (HaveOwnKeys (take n us ++ u ∷ []) ks → ⊥) → HaveOwnKeys us ks → ⊥
not_own us n u ks l e h o =
    let front : take (n + 1) us ≡ take n us ++ u ∷ []
    = take_more us n u l ∙ ap (λ (y : Task). take n us ++ y ∷ []) (sym e) in
    h (own_front (take n us ++ u ∷ []) (drop (n + 1) us) ks
    (subst (λ (xs : List Task). HaveOwnKeys (xs ++ drop (n + 1) us) ks) front
    (subst (λ (xs : List Task). HaveOwnKeys xs ks) (sym (take-append-drop (n + 1) us)) o)))

-- ---- places of other tags

pub tagged_more : (m : Places) (f : Task → Option Tag) (us : List Task) (t : Task)
    → ArePlaces m (map f us ++ f t ∷ []) → ArePlaces m (map f (us ++ t ∷ []))
tagged_more m f us t a =
    subst (λ (os : List (Option Tag)). ArePlaces m os) (sym (map-append f us (t ∷ []))) a

pub none_added : (m : Places) (os : List (Option Tag)) (o : Option Tag) → o ≡ None → ArePlaces m os
    → ArePlaces m (os ++ o ∷ [])
none_added m os o e a =
    subst (λ (x : Option Tag). ArePlaces m (os ++ x ∷ [])) (sym e) (untagged m os a)

few_taken : {A : Type 0} (n : ℕ) (xs : List A) → length (take n xs) ≤ n
few_taken zero xs = omega arith
few_taken (suc n) [] = omega arith
few_taken (suc n) (x ∷ xs) = let h = few_taken n xs in omega (arith, h)

pub used_few : (us : List Task) (n used : ℕ) → used ≡ puts_in (take n us) → used ≤ n
used_few us n used e = let a = puts_few (take n us) in let b = few_taken n us in omega (arith, a, b, e)

-- ---- scopes

some_place : (o : Option ℕ) → is_some o ≡ true → (u : ℕ) × (o ≡ Some u)
some_place (Some u) e = (u, refl)
some_place None e = absurd (true≢false (sym e))

pub place_more : (os : List (Option Tag)) (n : ℕ) (tag : Tag) (o : Option ℕ) → tag ≡ n ∷ [] → o ≡ first_place tag os
    → is_some o ≡ true → ((f : ℕ) → f < n → HasPlace os f) → (f : ℕ) → f < n + 1 → HasPlace os f
place_more os n tag o e g h more f l =
    elim (lt_or_is f n l) [
      | inl b ↦ more f b
      | inr b ↦ (let u = some_place o h in
          (u.0, ap (λ (k : ℕ). first_place (k ∷ []) os) b ∙ ap (λ (t : Tag). first_place t os) (sym e) ∙ sym g ∙ u.1))
    ]

-- a scope that has no place
pub not_placed : (os : List (Option Tag)) (n : ℕ) (tag : Tag) (o : Option ℕ) → tag ≡ n ∷ [] → o ≡ first_place tag os
    → is_some o ≡ false → HasPlace os n → ⊥
not_placed os n tag o e g h p =
    true≢false (sym (ap is_some (g ∙ ap (λ (t : Tag). first_place t os) e ∙ p.1)) ∙ h)

pub whole : (t : Table) (us : List Task) (ks : List ResourceId) (n : Numbers) (count : ℕ) (a b c d : Bool)
    → AreListed us ks n → count ≡ length t.frames.items → Decides a (length us ≤ 4294967295)
    → Decides b ((f : ℕ) → f < count → HasPlace (map enter_tag us) f)
    → Decides c ((f : ℕ) → f < count → HasPlace (map leave_tag us) f) → Decides d (Each (IsOfTable t) us)
    → Decides (a && (b && (c && d))) (AreOfScopes t us ks)
whole t us ks n count a b c d l e few enters leaves each = (
  λ all.
      let x = both a (b && (c && d)) all in
      let y = both b (c && d) x.1 in
      let z = both c d y.1 in
      record {
        few = few.0 x.0;
        keys = l.puts.keys;
        entered = λ f h. enters.0 y.0 f (omega (arith, e, h));
        left = λ f h. leaves.0 z.0 f (omega (arith, e, h));
        of_table = each.0 z.1;
      },
  λ o.
      and_true a (b && (c && d)) (few.1 o.few)
      (and_true b (c && d) (enters.1 (λ f h. o.entered f (omega (arith, e, h))))
      (and_true c d (leaves.1 (λ f h. o.left f (omega (arith, e, h)))) (each.1 o.of_table))),
)

pub numbers_are : (t : Table) (us : List Task) (ks : List ResourceId) (n : Numbers) → AreListed us ks n
    → AreOfScopes t us ks → AreNumbers t us ks n
numbers_are t us ks n l o = record { of_scopes = o; puts = l.puts.places; enters = l.enters; leaves = l.leaves }

-- what none was returned for
pub refused_by : {B : Type 0} (A : Type 0) (P : B → Type 0) (o : Option B) → o ≡ None → MatchOption o A P → A
refused_by A P o e m = subst (λ z. MatchOption z A P) e m

-- the numbers that were listed
pub listed_by : (ts us : List Task) (js ks : List ResourceId) (o : Option Numbers) (n : Numbers) → ts ≡ us → js ≡ ks
    → o ≡ Some n → MatchOption o (HaveOwnKeys ts js → ⊥) (λ m. AreListed ts js m) → AreListed us ks n
listed_by ts us js ks o n a b e m =
    subst (λ (xs : List Task). AreListed xs ks n) a
    (subst (λ (ys : List ResourceId). AreListed ts ys n) b
    (subst (λ (p : Option Numbers). MatchOption p (HaveOwnKeys ts js → ⊥) (λ m. AreListed ts js m)) e m))

-- what was read at a place
pub got : {A : Type 0} (xs : List A) (n : ℕ) (x : A) → n < length xs → x ≡ get_or xs n x → slice_get xs n ≡ Some x
got [] n x h e = absurd (omega (arith, h))
got (y ∷ xs) zero x h e = ap Some (sym e)
got (y ∷ xs) (suc n) x h e = got xs n x (omega (arith, h)) e
