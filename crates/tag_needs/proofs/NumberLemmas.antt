-- Numbers at tags, as they are listed and looked up.
use Rattle.std.proofs.Common.{◌≡◌, ℕ, zero, suc, ◌+◌, ◌-◌, ◌<◌, ◌≤◌, Bool, true, false, ◌||◌, List, [], ◌∷◌, ◌++◌}
use Rattle.std.proofs.Common.{map, drop, length, get_or, bytes_eq, cond, refl, sym, ap, ap₂, ◌∙◌, arith, inl, inr}
use Rattle.std.proofs.Common.{Some, None, add-one}
use Rattle.std.specs.Prelude.{nat_eq, slice_get, if◌then◌else◌}
use Rattle.std.specs.Option.{option_map_or}
use Rattle.std.specs.declared.vec.Vec.{Vec}
use Rattle.std.specs.declared.alloc.Global.{Global}
use Rattle.std.specs.List.{list_any}
use Rattle.std.specs.declared.cmp.Ordering.{Ordering}
use Rattle.std.specs.declared.cmp.Ordering.TheVariants.{Less, Equal, Greater}
use Rattle.std.specs.Ordering.{nat_cmp, is_eq, match_ordering}
use Rattle.std.specs.Cmp.{nat_cmp_total}
use Rattle.std.specs.Cmp.Lexicographic.{slice_cmp}
use Rattle.std.specs.BTreeMap as map
use Rattle.std.specs.BTreeMap.{is_at, get_by}
use Rattle.std.specs.BTreeSet as set
use Rattle.std.specs.BTreeSet.{BTreeSet, contains, IsOrdered, insert_key}
use denote.Ref.{Bor}
use Rattle.std.proofs.Math.Seq.{drop-cons}
use Rattle.std.proofs.lemmas.Map.Text.{btree_map_updates_str, is_eq-slice_cmp}
use Rattle.std.proofs.lemmas.Map.Lookups.{btree_set_from_contains, exact_unsigned}
use Rattle.std.proofs.lemmas.Slice.Eq.{bytes_eq-Decides}
use Rattle.std.proofs.lemmas.List.{append-nil}
use Rattle.std.proofs.lemmas.Bool.{or_cases, or_right}
use Rattle.foundation.proofs.Words.{swapped}
use Rattle.foundation.proofs.TruthValues.{both_ways, or_again, or_assoc}
use Rattle.tag_needs.specs.Tags.{Tag, tags_of, tags_in, shares, needed, IsShared}
use Rattle.tag_needs.specs.Numbers.{Numbers, tag_cmp, numbers_at, is_in, times_listed, holders, AreNumbers}
use Rattle.tag_needs.specs.Numbers.{is_listed_at}
use Rattle.tag_needs.proofs.TagLemmas.{any_same, shares_at, listed_shares, needed_shares, needed_rises, IsAsked}
use Rattle.tag_needs.proofs.TagLemmas.{shares_from}
use Rattle.tag_needs.proofs.TagLemmas.{shares_to}
use Rattle.foundation.proofs.Lists.{next_item}
use Rattle.foundation.proofs.Options.{same_some}
use Rattle.foundation.proofs.Comparisons.{lt_or_is, eq_turned}

-- ---- what is left of a list

left_number : (xs : List ℕ) (i : ℕ) → i < length xs → drop i xs ≡ get_or xs i 0 ∷ drop (i + 1) xs
left_number xs i h = rw (add-one, drop-cons xs i 0 h) refl

turned : (a b c : Bool) → ((a || b) || c) ≡ (b || (a || c))
turned true true c = refl
turned true false c = refl
turned false b c = refl

-- ---- one number more at a tag

pub one_more : (old mid new : Numbers) (tag : Bor (List ℕ)) (list : Vec ℕ Global) (n : ℕ)
    → map.UpdatesBy tag_cmp (tag_cmp tag) old mid None → map.UpdatesBy tag_cmp (tag_cmp tag) mid new (Some list)
    → list.items ≡ numbers_at old tag.now ++ n ∷ [] → (t : Tag)
    → numbers_at new t ≡ numbers_at old t ++ (if bytes_eq t tag.now then n ∷ [] else [])
one_more old mid new tag list n u v e t =
    ap (λ o. option_map_or (λ x. x.items) o []) (btree_map_updates_str tag.now mid new (Some list) v t)
    ∙ ap (λ o. option_map_or (λ x. x.items) (cond (bytes_eq tag.now t) (Some list) o) [])
    (btree_map_updates_str tag.now old mid None u t)
    ∙ by_test (bytes_eq tag.now t) (λ h. (bytes_eq-Decides tag.now t).0 h)
    ∙ ap (λ b. numbers_at old t ++ (if b then n ∷ [] else [])) (swapped tag.now t)
  where
    by_test : (b : Bool) → (b ≡ true → tag.now ≡ t)
        → option_map_or (λ x. x.items)
        (cond b (Some list) (cond b None (get_by (λ k. slice_cmp nat_cmp t k.now) old))) []
        ≡ numbers_at old t ++ (if b then n ∷ [] else [])
    by_test true h = e ∙ ap (λ s. numbers_at old s ++ n ∷ []) (h refl)
    by_test false h = sym (append-nil (numbers_at old t))

-- ---- what is listed, as more is

abbrev pub TagsLeft : Numbers → Numbers → ℕ → List (Vec ℕ Global) → List (Vec ℕ Global) → Type 0
TagsLeft now first n rest all = (t : Tag)
    → numbers_at now t ++ times_listed t n (map (λ u. u.items) rest)
    ≡ numbers_at first t ++ times_listed t n (map (λ u. u.items) all)

abbrev pub ThingsLeft : Numbers → ℕ → List (Vec (Vec ℕ Global) Global) → List (Vec (Vec ℕ Global) Global) → Type 0
ThingsLeft now n rest all = (t : Tag) → numbers_at now t ++ holders t n (tags_in rest) ≡ holders t 0 (tags_in all)

-- ---- sets of numbers and of tags

pub number_test : (n j : ℕ) → is_at (nat_cmp n) j ≡ nat_eq j n
number_test n j = grind arith

first_or : (a b : Bool) → cond a true b ≡ (a || b)
first_or true b = refl
first_or false b = refl

abbrev pub NumbersLeft : BTreeSet ℕ → BTreeSet ℕ → List ℕ → List ℕ → Type 0
NumbersLeft now first rest all = (j : ℕ) → (contains nat_cmp now j || list_any (nat_eq j) rest)
    ≡ (contains nat_cmp first j || list_any (nat_eq j) all)

pub numbers_next : (now new first : BTreeSet ℕ) (i : ℕ) (all : List ℕ) → i < length all
    → set.Updates nat_cmp now new (get_or all i 0) true → NumbersLeft now first (drop i all) all
    → NumbersLeft new first (drop (i + 1) all) all
numbers_next now new first i all h u c j =
    let n = get_or all i 0 in
    ap (λ b. b || list_any (nat_eq j) (drop (i + 1) all))
    (u.0 j ∙ ap (λ b. cond b true (contains nat_cmp now j)) (number_test n j)
    ∙ first_or (nat_eq j n) (contains nat_cmp now j))
    ∙ turned (nat_eq j n) (contains nat_cmp now j) (list_any (nat_eq j) (drop (i + 1) all))
    ∙ ap (λ xs. contains nat_cmp now j || list_any (nat_eq j) xs) (sym (left_number all i h))
    ∙ c j

key_added : (t : Tag) (k : Bor (List ℕ)) (ks : List (Bor (List ℕ)))
    → list_any (bytes_eq t) (map (λ x. x.now) (insert_key tag_cmp ks k))
    ≡ (bytes_eq t k.now || list_any (bytes_eq t) (map (λ x. x.now) ks))
key_added t k [] = refl
key_added t k (x ∷ xs) = by_order (tag_cmp k x) (λ e. same_key e) (key_added t k xs)
  where
    any_in : List (Bor (List ℕ)) → Bool
    any_in ks = list_any (bytes_eq t) (map (λ y. y.now) ks)

    same_key : tag_cmp k x ≡ Equal → k.now ≡ x.now
    same_key e = (bytes_eq-Decides k.now x.now).0 (sym (is_eq-slice_cmp k.now x.now) ∙ ap is_eq e)

    by_order : (r : Ordering) → (r ≡ Equal → k.now ≡ x.now)
        → any_in (insert_key tag_cmp xs k) ≡ (bytes_eq t k.now || any_in xs)
        → any_in (match_ordering r (k ∷ x ∷ xs) (x ∷ xs) (x ∷ insert_key tag_cmp xs k))
        ≡ (bytes_eq t k.now || (bytes_eq t x.now || any_in xs))
    by_order Less e h = refl
    by_order Equal e h =
        or_again (bytes_eq t x.now) (any_in xs)
        ∙ ap (λ y. bytes_eq t y || (bytes_eq t x.now || any_in xs)) (sym (e refl))
    by_order Greater e h =
        ap (λ b. bytes_eq t x.now || b) h
        ∙ sym (or_assoc (bytes_eq t x.now) (bytes_eq t k.now) (any_in xs))
        ∙ turned (bytes_eq t x.now) (bytes_eq t k.now) (any_in xs)

abbrev pub OnceLeft : BTreeSet (Bor (List ℕ)) → List (Vec ℕ Global) → List (Vec ℕ Global) → Type 0
OnceLeft now rest all = (t : Tag) → (is_in now t || list_any (bytes_eq t) (map (λ u. u.items) rest))
    ≡ list_any (bytes_eq t) (map (λ u. u.items) all)

pub once_next : (now new : BTreeSet (Bor (List ℕ))) (i : ℕ) (all : List (Vec ℕ Global)) (v : Vec ℕ Global)
    (s : Bor (List ℕ)) → i < length all → v ≡ get_or all i v → s.now ≡ v.items → new.keys
    ≡ insert_key tag_cmp now.keys s
    → OnceLeft now (drop i all) all → OnceLeft new (drop (i + 1) all) all
once_next now new i all v s h e w u c t =
    let rest = list_any (bytes_eq t) (map (λ (x : Vec ℕ Global). x.items) (drop (i + 1) all)) in
    ap (λ b. b || rest)
    (ap (λ (ks : List (Bor (List ℕ))). list_any (bytes_eq t) (map (λ k. k.now) ks)) u ∙ key_added t s now.keys
    ∙ ap (λ x. bytes_eq t x || is_in now t) w)
    ∙ turned (bytes_eq t v.items) (is_in now t) rest
    ∙ ap (λ (vs : List (Vec ℕ Global)). is_in now t || list_any (bytes_eq t) (map (λ x. x.items) vs))
    (sym (next_item all i v h e))
    ∙ c t

-- ---- the tags for which is asked

record IsThere (f : Tag → Bool) (xs : List Tag) : Type 0 where
  tag : Tag
  among : list_any (bytes_eq tag) xs ≡ true
  passes : f tag ≡ true

there_in : (f : Tag → Bool) (xs : List Tag) → list_any f xs ≡ true → IsThere f xs
there_in f [] h = let no : false ≡ true = h in absurd (cc)
there_in f (x ∷ xs) h =
    elim (or_cases (f x) (list_any f xs) h) [
      | inl e ↦ record {
        tag = x;
        among = ap (λ b. b || list_any (bytes_eq x) xs) ((bytes_eq-Decides x x).1 refl);
        passes = e;
      }
      | inr e ↦ (let r = there_in f xs e in record {
        tag = r.tag;
        among = or_right (bytes_eq r.tag x) (list_any (bytes_eq r.tag) xs) r.among;
        passes = r.passes;
      })
    ]

passes_in : (f : Tag → Bool) (t : Tag) (xs : List Tag) → f t ≡ true → list_any (bytes_eq t) xs ≡ true
    → list_any f xs ≡ true
passes_in f t [] p h = let no : false ≡ true = h in absurd (cc)
passes_in f t (x ∷ xs) p h =
    elim (or_cases (bytes_eq t x) (list_any (bytes_eq t) xs) h) [
      | inl e ↦ ap (λ b. b || list_any f xs) (ap f (sym ((bytes_eq-Decides t x).0 e)) ∙ p)
      | inr e ↦ or_right (f x) (list_any f xs) (passes_in f t xs p e)
    ]

any_among : (f : Tag → Bool) (xs ys : List Tag)
    → ((t : Tag) → list_any (bytes_eq t) xs ≡ list_any (bytes_eq t) ys) → list_any f xs ≡ list_any f ys
any_among f xs ys h =
    both_ways (list_any f xs) (list_any f ys)
    (λ e. let r = there_in f xs e in passes_in f r.tag ys r.passes (sym (h r.tag) ∙ r.among))
    (λ e. let r = there_in f ys e in passes_in f r.tag xs r.passes (h r.tag ∙ r.among))

pub found_all : (m : Numbers) (empty found : BTreeSet ℕ) (tags : BTreeSet (Bor (List ℕ))) (asks : List (Vec ℕ Global))
    → set.IsEmpty empty → ((t : Tag) → is_in tags t ≡ list_any (bytes_eq t) (map (λ u. u.items) asks))
    → ((j : ℕ) → contains nat_cmp found j
    ≡ (contains nat_cmp empty j || is_listed_at m j (map (λ k. k.now) tags.keys)))
    → (j : ℕ) → contains nat_cmp found j ≡ is_listed_at m j (map (λ u. u.items) asks)
found_all m empty found tags asks e h g j =
    g j
    ∙ ap (λ (ks : List ℕ). list_any (is_at (nat_cmp j)) ks || is_listed_at m j (map (λ k. k.now) tags.keys)) e
    ∙ any_among (λ t. list_any (nat_eq j) (numbers_at m t)) (map (λ k. k.now) tags.keys) (map (λ u. u.items) asks)
    h

pub listed_is : (m : Numbers) (tags : List (List Tag)) (asks : List Tag) (j : ℕ) → AreNumbers m tags
    → is_listed_at m j asks ≡ shares_at asks j 0 tags
listed_is m tags asks j a =
    any_same (λ t. list_any (nat_eq j) (numbers_at m t)) (λ t. list_any (nat_eq j) (holders t 0 tags))
    (λ t. ap (list_any (nat_eq j)) (a t)) asks
    ∙ listed_shares asks j 0 tags

numbers_test : (j : ℕ) (ns : List ℕ) → list_any (is_at (nat_cmp j)) ns ≡ list_any (nat_eq j) ns
numbers_test j [] = refl
numbers_test j (n ∷ ns) = ap₂ (λ x y. x || y) (number_test j n ∙ eq_turned n j) (numbers_test j ns)

-- the numbers that were found are those of what is needed
pub needed_is : (m : Numbers) (tags : List (List Tag)) (asks : List Tag) (s : BTreeSet ℕ) → AreNumbers m tags
    → ((j : ℕ) → contains nat_cmp s j ≡ is_listed_at m j asks) → IsOrdered nat_cmp s → s.keys ≡ needed asks 0 tags
needed_is m tags asks s a h o =
    btree_set_from_contains nat_cmp_total s (record { keys = needed asks 0 tags }) o (needed_rises asks 0 tags)
    (λ j. h j ∙ listed_is m tags asks j a ∙ sym (needed_shares asks j 0 tags)
    ∙ sym (numbers_test j (needed asks 0 tags)))
    exact_unsigned

-- ---- two that share a tag

get_there : (xs : List (Vec (Vec ℕ Global) Global)) (n : ℕ) (v : Vec (Vec ℕ Global) Global) → n < length xs
    → v ≡ get_or xs n v → slice_get (tags_in xs) n ≡ Some (tags_of v)
get_there [] n v h e = absurd (omega (arith, h))
get_there (x ∷ xs) zero v h e = ap (λ y. Some (tags_of y)) (sym e)
get_there (x ∷ xs) (suc n) v h e = get_there xs n v (omega (arith, h)) e

within : (xs : List (Vec (Vec ℕ Global) Global)) (n : ℕ) (ts : List Tag) → slice_get (tags_in xs) n ≡ Some ts
    → n < length xs
within [] n ts e = let no : None ≡ Some ts = e in absurd (cc)
within (x ∷ xs) zero ts e = omega arith
within (x ∷ xs) (suc n) ts e = let h = within xs n ts e in omega (arith, h)

pub shared_found : (m : Numbers) (tags : List (Vec (Vec ℕ Global) Global)) (n other : ℕ) (v : Vec (Vec ℕ Global) Global)
    (xs : List (Vec ℕ Global)) → AreNumbers m (tags_in tags) → n < length tags → v ≡ get_or tags n v → xs ≡ v.items
    → (n < other) × (is_listed_at m other (map (λ t. t.items) xs) ≡ true) → IsShared (tags_in tags) n other
shared_found m tags n other v xs a h e w g = record {
  below = g.0;
  first = tags_of v;
  second = asked.tags_there;
  is_first = get_there tags n v h e;
  is_second = ap (slice_get (tags_in tags)) (let z : other ≡ other - 0 = omega arith in z) ∙ asked.there;
  share = asked.share;
}
  where
    asked : IsAsked (tags_of v) other 0 (tags_in tags)
    asked =
        shares_from (tags_of v) other 0 (tags_in tags)
        (sym (listed_is m (tags_in tags) (tags_of v) other a)
        ∙ ap (λ (ys : List (Vec ℕ Global)). is_listed_at m other (map (λ t. t.items) ys)) (sym w) ∙ g.1)

abbrev pub NoneBelow : List (List Tag) → ℕ → Type 0
NoneBelow tags n = (i j : ℕ) → i < n → IsShared tags i j → ⊥

pub apart_next : (m : Numbers) (tags : List (Vec (Vec ℕ Global) Global)) (n : ℕ) (v : Vec (Vec ℕ Global) Global)
    (xs : List (Vec ℕ Global)) → AreNumbers m (tags_in tags) → n < length tags → v ≡ get_or tags n v → xs ≡ v.items
    → ((j : ℕ) → n < j → is_listed_at m j (map (λ t. t.items) xs) ≡ false) → NoneBelow (tags_in tags) n
    → NoneBelow (tags_in tags) (n + 1)
apart_next m tags n v xs a h e w g c i j k s =
    elim (lt_or_is i n k) [ inl lt ↦ c i j lt s | inr is ↦ here is ]
  where
    here : i ≡ n → ⊥
    here is =
        let first : s.first ≡ tags_of v =
        same_some (sym s.is_first ∙ ap (slice_get (tags_in tags)) is ∙ get_there tags n v h e) in
        let yes : shares_at (tags_of v) (0 + j) 0 (tags_in tags) ≡ true =
        shares_to (tags_of v) j 0 (tags_in tags) s.second s.is_second (ap (λ ts. shares ts s.second) (sym first)
        ∙ s.share) in
        let no : shares_at (tags_of v) j 0 (tags_in tags) ≡ false =
        sym (listed_is m (tags_in tags) (tags_of v) j a)
        ∙ ap (λ (ys : List (Vec ℕ Global)). is_listed_at m j (map (λ t. t.items) ys)) (sym w)
        ∙ g j (let b = s.below in omega (arith, b, is)) in
        let both : false ≡ true =
        sym no ∙ ap (λ (b : ℕ). shares_at (tags_of v) b 0 (tags_in tags)) (let z : j ≡ 0 + j = omega arith in z)
        ∙ yes in
        absurd (cc)

pub apart_end : (tags : List (Vec (Vec ℕ Global) Global)) (n : ℕ) → length tags ≤ n → NoneBelow (tags_in tags) n
    → (i j : ℕ) → IsShared (tags_in tags) i j → ⊥
apart_end tags n h c i j s = c i j (let w = within tags i s.first s.is_first in omega (arith, w, h)) s
