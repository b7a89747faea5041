-- Tags that are shared, and the numbers of those that have them.
use Rattle.std.proofs.Common.{◌≡◌, ℕ, zero, suc, ◌+◌, ◌-◌, ◌<◌, ◌≤◌, Bool, true, false, ◌&&◌, ◌||◌, List, [], ◌∷◌, ◌++◌}
use Rattle.std.proofs.Common.{bytes_eq, refl, sym, ap, ap₂, ◌∙◌, arith, inl, inr, Some, None}
use Rattle.std.specs.Prelude.{nat_eq, slice_get, if◌then◌else◌}
use Rattle.std.specs.List.{list_any, AllByRecursion}
use Rattle.std.specs.List.Sorted.{IsStrictlySortedBy}
use Rattle.std.specs.Ordering.{nat_cmp}
use Rattle.std.specs.declared.cmp.Ordering.TheVariants.{Less}
use Rattle.std.proofs.lemmas.List.Folds.{list_any-append}
use Rattle.std.proofs.lemmas.Bool.{or_cases, or_left, or_right}
use Rattle.foundation.proofs.Comparisons.{eq_itself, eq_of_true, less}
use Rattle.foundation.proofs.TruthValues.{both, and_false_is, and_shared, and_true_is, or_crossed, or_false}
use Rattle.tag_needs.specs.Tags.{Tag, shares, needed}
use Rattle.tag_needs.specs.Numbers.{times_listed, holders}

-- ---- lists of tags

any_or : (f g : Tag → Bool) (xs : List Tag) → list_any (λ a. f a || g a) xs ≡ (list_any f xs || list_any g xs)
any_or f g [] = refl
any_or f g (a ∷ xs) = ap (λ z. (f a || g a) || z) (any_or f g xs) ∙ or_crossed (f a) (g a) (list_any f xs) (list_any g xs)

any_and : (x : Bool) (g : Tag → Bool) (xs : List Tag) → list_any (λ a. x && g a) xs ≡ (x && list_any g xs)
any_and x g [] = sym (and_false_is x)
any_and x g (a ∷ xs) = ap (λ z. (x && g a) || z) (any_and x g xs) ∙ and_shared x (g a) (list_any g xs)

pub any_same : (f g : Tag → Bool) → ((a : Tag) → f a ≡ g a) → (xs : List Tag) → list_any f xs ≡ list_any g xs
any_same f g h [] = refl
any_same f g h (a ∷ xs) = ap₂ (λ x y. x || y) (h a) (any_same f g h xs)

any_none : (xs : List Tag) → list_any (λ a. false) xs ≡ false
any_none [] = refl
any_none (a ∷ xs) = any_none xs

-- ---- those that have a tag for which is asked

-- whether the number j is that of one that has such a tag, where the first has the number i
abbrev pub shares_at : List Tag → ℕ → ℕ → List (List Tag) → Bool
shares_at asks j i [] = false
shares_at asks j i (ts ∷ rest) = (nat_eq j i && shares asks ts) || shares_at asks j (suc i) rest

times_any : (a : Tag) (j i : ℕ) (ts : List Tag)
    → list_any (nat_eq j) (times_listed a i ts) ≡ (nat_eq j i && list_any (bytes_eq a) ts)
times_any a j i [] = sym (and_false_is (nat_eq j i))
times_any a j i (t ∷ ts) =
    list_any-append (nat_eq j) (if bytes_eq a t then i ∷ [] else []) (times_listed a i ts)
    ∙ ap₂ (λ x y. x || y) (one (bytes_eq a t)) (times_any a j i ts)
    ∙ and_shared (nat_eq j i) (bytes_eq a t) (list_any (bytes_eq a) ts)
  where
    one : (b : Bool) → list_any (nat_eq j) (if b then i ∷ [] else []) ≡ (nat_eq j i && b)
    one true = or_false (nat_eq j i) ∙ sym (and_true_is (nat_eq j i))
    one false = sym (and_false_is (nat_eq j i))

pub listed_shares : (asks : List Tag) (j i : ℕ) (tags : List (List Tag))
    → list_any (λ a. list_any (nat_eq j) (holders a i tags)) asks ≡ shares_at asks j i tags
listed_shares asks j i [] = any_none asks
listed_shares asks j i (ts ∷ rest) =
    any_same (λ a. list_any (nat_eq j) (times_listed a i ts ++ holders a (suc i) rest))
    (λ a. (nat_eq j i && list_any (bytes_eq a) ts) || list_any (nat_eq j) (holders a (suc i) rest))
    (λ a. list_any-append (nat_eq j) (times_listed a i ts) (holders a (suc i) rest)
    ∙ ap (λ x. x || list_any (nat_eq j) (holders a (suc i) rest)) (times_any a j i ts)) asks
    ∙ any_or (λ a. nat_eq j i && list_any (bytes_eq a) ts) (λ a. list_any (nat_eq j) (holders a (suc i) rest)) asks
    ∙ ap₂ (λ x y. x || y) (any_and (nat_eq j i) (λ a. list_any (bytes_eq a) ts) asks)
    (listed_shares asks j (suc i) rest)

pub needed_shares : (asks : List Tag) (j i : ℕ) (tags : List (List Tag))
    → list_any (nat_eq j) (needed asks i tags) ≡ shares_at asks j i tags
needed_shares asks j i [] = refl
needed_shares asks j i (ts ∷ rest) =
    by_test (shares asks ts) ∙ ap (λ y. (nat_eq j i && shares asks ts) || y) (needed_shares asks j (suc i) rest)
  where
    by_test : (b : Bool)
        → list_any (nat_eq j) (if b then i ∷ needed asks (suc i) rest else needed asks (suc i) rest)
        ≡ ((nat_eq j i && b) || list_any (nat_eq j) (needed asks (suc i) rest))
    by_test true = ap (λ y. y || list_any (nat_eq j) (needed asks (suc i) rest)) (sym (and_true_is (nat_eq j i)))
    by_test false = ap (λ y. y || list_any (nat_eq j) (needed asks (suc i) rest)) (sym (and_false_is (nat_eq j i)))

-- ---- in order

if_both : (P : List ℕ → Type 0) (b : Bool) (xs ys : List ℕ) → P xs → P ys → P (if b then xs else ys)
if_both P true xs ys h k = h
if_both P false xs ys h k = k

above : (asks : List Tag) (k i : ℕ) (tags : List (List Tag)) → k < i
    → AllByRecursion (λ y. nat_cmp k y ≡ Less) (needed asks i tags)
above asks k i [] h = tt
above asks k i (ts ∷ rest) h =
    let later = above asks k (suc i) rest (omega (arith, h)) in
    if_both (AllByRecursion (λ y. nat_cmp k y ≡ Less)) (shares asks ts) (i ∷ needed asks (suc i) rest)
    (needed asks (suc i) rest) (less k i h, later) later

pub needed_rises : (asks : List Tag) (i : ℕ) (tags : List (List Tag)) → IsStrictlySortedBy nat_cmp (needed asks i tags)
unfolding IsStrictlySortedBy
needed_rises asks i [] = tt
needed_rises asks i (ts ∷ rest) =
    let later = needed_rises asks (suc i) rest in
    if_both (IsStrictlySortedBy nat_cmp) (shares asks ts) (i ∷ needed asks (suc i) rest) (needed asks (suc i) rest)
    (above asks i (suc i) rest (omega arith), later) later

-- ---- which one it is

pub record IsAsked (asks : List Tag) (j i : ℕ) (tags : List (List Tag)) : Type 0 where
  pub tags_there : List Tag
  pub within : i ≤ j
  pub there : slice_get tags (j - i) ≡ Some tags_there
  pub share : shares asks tags_there ≡ true

pub shares_from : (asks : List Tag) (j i : ℕ) (tags : List (List Tag)) → shares_at asks j i tags ≡ true
    → IsAsked asks j i tags
shares_from asks j i [] h = let no : false ≡ true = h in absurd (cc)
shares_from asks j i (ts ∷ rest) h =
    elim (or_cases (nat_eq j i && shares asks ts) (shares_at asks j (suc i) rest) h) [
      | inl e ↦ here (both (nat_eq j i) (shares asks ts) e)
      | inr e ↦ later (shares_from asks j (suc i) rest e)
    ]
  where
    here : (nat_eq j i ≡ true) × (shares asks ts ≡ true) → IsAsked asks j i (ts ∷ rest)
    here e =
        let at : j ≡ i = eq_of_true j i e.0 in
        record {
          tags_there = ts;
          within = omega (arith, at);
          there = ap (slice_get (ts ∷ rest)) (let z : j - i ≡ 0 = omega (arith, at) in z);
          share = e.1;
        }

    later : IsAsked asks j (suc i) rest → IsAsked asks j i (ts ∷ rest)
    later r = record {
      tags_there = r.tags_there;
      within = let w = r.within in omega (arith, w);
      there =
          ap (slice_get (ts ∷ rest))
          (let w = r.within in let z : j - i ≡ suc (j - suc i) = omega (arith, w) in z)
          ∙ r.there;
      share = r.share;
    }

pub shares_to : (asks : List Tag) (k i : ℕ) (tags : List (List Tag)) (ts : List Tag) → slice_get tags k ≡ Some ts
    → shares asks ts ≡ true → shares_at asks (i + k) i tags ≡ true
shares_to asks k i [] ts e h = let no : None ≡ Some ts = e in absurd (cc)
shares_to asks zero i (t ∷ rest) ts e h =
    let same : t ≡ ts = some_same e in
    or_left (nat_eq (i + 0) i && shares asks t) (shares_at asks (i + 0) (suc i) rest)
    (ap₂ (λ x y. x && y)
    (ap (λ n. nat_eq n i) (let z : i + 0 ≡ i = omega arith in z) ∙ eq_itself i) (ap (shares asks) same ∙ h))
  where
    some_same : Some t ≡ Some ts → t ≡ ts
    some_same e = cc
shares_to asks (suc k) i (t ∷ rest) ts e h =
    or_right (nat_eq (i + suc k) i && shares asks t) (shares_at asks (i + suc k) (suc i) rest)
    (ap (λ (n : ℕ). shares_at asks n (suc i) rest) (let z : i + suc k ≡ suc i + k = omega arith in z)
    ∙ shares_to asks k (suc i) rest ts e h)
