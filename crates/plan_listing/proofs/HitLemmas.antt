-- Loops over nested deployments and their instances.
use Rattle.std.proofs.Common.{◌≡◌, ℕ, suc, ◌+◌, ◌<◌, ◌≤◌, Bool, true, false, List, [], ◌∷◌, map, drop}
use Rattle.std.proofs.Common.{chars, length, get_or, Option, Some, None, refl, sym, ap, subst, ◌∙◌, arith}
use Rattle.std.specs.Prelude.{option_map, ◌&&◌, ◌||◌, if◌then◌else◌, slice_get}
use Rattle.std.specs.List.{list_any}
use Rattle.std.proofs.lemmas.List.{drop_more, drop_all, drop-map, length-map}
use Rattle.std.proofs.lemmas.Str.{chars-nil}
use Rattle.foundation.proofs.TruthValues.{both, first_fails_alone, or_false}
use Rattle.arm_value.specs.Json.{Json, null, bool, int, text, array, object, row, items}
use Rattle.arm_value.specs.View.{json}
use Rattle.arm_value.specs.declared.value.Value.{Value}
use Rattle.arm_value.specs.declared.value.Value.TheVariants as values
use Rattle.function_numbers.specs.Kinds as kinds
use Rattle.function_numbers.specs.Kinds.{text_of, truth_of}
use Rattle.deploy_cells.specs.Listing.{Named, named_of, first_index, first_included, has_name, here_or, sought_by}
use Rattle.deploy_cells.specs.Listing.{not_here, items_of, instances_of, sought}
use Rattle.plan_cells.specs.Resources as cells
use Rattle.plan_cells.specs.Resources.{nested_from}
use Rattle.plan_listing.specs.declared.listing.Entry.{Entry}
use Rattle.plan_listing.specs.declared.listing.Hit.{Hit}
use Rattle.plan_listing.specs.declared.listing.Hit.TheVariants as hit
use Rattle.plan_listing.specs.declared.listing.Sought.{Sought}
use Rattle.plan_listing.specs.declared.listing.Sought.TheVariants as seeks
use Rattle.plan_listing.specs.Hits.{entry_of, named_by_parts, IsHit, index_in, is_left, IsSoughtIn, sought_of}

-- ---- the parts of an item

by_kinds : (x y : Json) → named_by_parts x y ≡ named_of (array (row (x ∷ y ∷ [])))
by_kinds (text n) (bool b) = refl
by_kinds (text n) null = refl
by_kinds (text n) (int z) = refl
by_kinds (text n) (text s) = refl
by_kinds (text n) (array js) = refl
by_kinds (text n) (object ms) = refl
by_kinds null y = refl
by_kinds (bool b) y = refl
by_kinds (int z) y = refl
by_kinds (array js) y = refl
by_kinds (object ms) y = refl

pub two_parts : (js : List Json) (a b : Json) → length js ≡ 2 → a ≡ get_or js 0 a → b ≡ get_or js 1 b
    → named_by_parts a b ≡ named_of (array (row js))
two_parts [] a b l e f = absurd (omega (arith, l))
two_parts (x ∷ []) a b l e f = absurd (omega (arith, l))
two_parts (x ∷ y ∷ []) a b l e f = rw (e, f) (by_kinds x y)
two_parts (x ∷ y ∷ z ∷ js) a b l e f = absurd (omega (arith, l))

other_items : (js : List Json) → (length js ≡ 2 → ⊥)
    → record { name = []; included = false } ≡ named_of (array (row js))
other_items [] l = refl
other_items (x ∷ []) l = one_part x
  where
    one_part : (x : Json) → record { name = []; included = false } ≡ named_of (array (row (x ∷ [])))
    one_part (text n) = refl
    one_part null = refl
    one_part (bool b) = refl
    one_part (int z) = refl
    one_part (array js) = refl
    one_part (object ms) = refl
other_items (x ∷ y ∷ []) l = absurd (l refl)
other_items (x ∷ y ∷ z ∷ js) l = more_parts x y
  where
    more_parts : (x y : Json)
        → record { name = []; included = false } ≡ named_of (array (row (x ∷ y ∷ z ∷ js)))
    more_parts (text n) (bool b) = refl
    more_parts (text n) null = refl
    more_parts (text n) (int i) = refl
    more_parts (text n) (text s) = refl
    more_parts (text n) (array ks) = refl
    more_parts (text n) (object ms) = refl
    more_parts null y = refl
    more_parts (bool b) y = refl
    more_parts (int i) y = refl
    more_parts (array ks) y = refl
    more_parts (object ms) y = refl

-- an item that lists nothing has no name
nothing_is : {n : Named} → record { name = []; included = false } ≡ n
    → record { name = chars []; included = false } ≡ n
nothing_is {n} h = rw chars-nil h

pub other_parts : (vs : List Value) (js : List Json) → map json vs ≡ js → (length vs ≡ 2 → ⊥)
    → record { name = chars []; included = false } ≡ named_of (array (row js))
other_parts vs js e l =
    nothing_is (other_items js (λ h. l (sym (length-map vs json) ∙ ap length e ∙ h)))

pub other_value : (v : Value) → ((js : List Json) → v ≡ values.Array js → ⊥)
    → record { name = chars []; included = false } ≡ named_of (json v)
other_value values.Null h = nothing_is refl
other_value (values.Bool b) h = nothing_is refl
other_value (values.Int z) h = nothing_is refl
other_value (values.Text s) h = nothing_is refl
other_value (values.Array js) h = absurd (h js refl)
other_value (values.Object ms) h = nothing_is refl

pub no_text : (a b : Json) → text_of a ≡ None
    → record { name = chars []; included = false } ≡ named_by_parts a b
no_text (text n) b e = absurd (cc)
no_text null b e = nothing_is refl
no_text (bool c) b e = nothing_is refl
no_text (int z) b e = nothing_is refl
no_text (array js) b e = nothing_is refl
no_text (object ms) b e = nothing_is refl

pub no_truth : (a b : Json) → truth_of b ≡ None
    → record { name = chars []; included = false } ≡ named_by_parts a b
no_truth (text n) (bool c) e = absurd (cc)
no_truth (text n) null e = nothing_is refl
no_truth (text n) (int z) e = nothing_is refl
no_truth (text n) (text s) e = nothing_is refl
no_truth (text n) (array js) e = nothing_is refl
no_truth (text n) (object ms) e = nothing_is refl
no_truth null b e = nothing_is refl
no_truth (bool c) b e = nothing_is refl
no_truth (int z) b e = nothing_is refl
no_truth (array js) b e = nothing_is refl
no_truth (object ms) b e = nothing_is refl

-- ---- the next item

pub next : {A B : Type 0} (f : A → B) (xs : List A) (i : ℕ) (x : A) → i < length xs → x ≡ get_or xs i x
    → drop i (map f xs) ≡ f x ∷ drop (i + 1) (map f xs)
next f xs i x h e =
    drop-map f i xs ∙ ap (map f) (drop_more xs i x h)
    ∙ ap (λ y. f y ∷ map f (drop (i + 1) xs)) (sym e) ∙ ap (λ ys. f x ∷ ys) (sym (drop-map f (i + 1) xs))

pub none_left : {A B : Type 0} (f : A → B) (xs : List A) (i : ℕ) → length xs ≤ i → drop i (map f xs) ≡ []
none_left f xs i h = drop-map f i xs ∙ ap (map f) (drop_all i xs h)

module _ {A B C : Type 0} (f : B → C) (g : A → B) (xs : List A) (i : ℕ) where
  pub next_of : (x : A) → i < length xs → x ≡ get_or xs i x
      → drop i (map f (map g xs)) ≡ f (g x) ∷ drop (i + 1) (map f (map g xs))
  next_of x h e =
      drop-map f i (map g xs) ∙ ap (map f) (next g xs i x h e)
      ∙ ap (λ ys. f (g x) ∷ ys) (sym (drop-map f (i + 1) (map g xs)))

  pub no_more : length xs ≤ i → drop i (map f (map g xs)) ≡ []
  no_more h = drop-map f i (map g xs) ∙ ap (map f) (none_left g xs i h)

-- ---- instances

-- what is sought among these instances, of which those up to an index were looked at
pub record IsSeeking (test : List ℕ → Bool) (ns : List Named) (i : ℕ) (left : Bool) : Type 0 where
  pub index : first_index test ns ≡ option_map (λ k. i + k) (first_index test (drop i ns))
  pub any : list_any (λ n. test n.name) ns ≡ (left || list_any (λ n. test n.name) (drop i ns))

from_zero : (o : Option ℕ) → o ≡ option_map (λ k. 0 + k) o
from_zero (Some k) = let e : 0 + k ≡ k = omega arith in ap Some (sym e)
from_zero None = refl

pub seeking_begins : (test : List ℕ → Bool) (ns : List Named) → IsSeeking test ns 0 false
seeking_begins test ns = record { index = from_zero (first_index test ns); any = refl }

one_more : (i : ℕ) (o : Option ℕ)
    → option_map (λ k. i + k) (option_map (λ k. suc k) o) ≡ option_map (λ k. (i + 1) + k) o
one_more i (Some k) = let same : i + suc k ≡ (i + 1) + k = omega arith in ap Some same
one_more i None = refl

or_true : (b c : Bool) → (b || (true || c)) ≡ (true || c)
or_true true c = refl
or_true false c = refl

module _ (test : List ℕ → Bool) (ns : List Named) (i : ℕ) (n : Named) (left : Bool)
    (next : drop i ns ≡ n ∷ drop (i + 1) ns) (here : IsSeeking test ns i left) where
  abbrev rest : List Named
  rest = drop (i + 1) ns

  index_next : first_index test ns ≡ option_map (λ k. i + k) (first_index test (n ∷ rest))
  index_next = here.index ∙ ap (λ xs. option_map (λ k. i + k) (first_index test xs)) next

  any_next : list_any (λ n. test n.name) ns ≡ (left || list_any (λ n. test n.name) (n ∷ rest))
  any_next = here.any ∙ ap (λ xs. left || list_any (λ n. test n.name) xs) next

  first_is : (b c : Bool) → n.included ≡ b → test n.name ≡ c
      → first_index test (n ∷ rest)
      ≡ (if b && c then Some 0 else option_map (λ k. suc k) (first_index test rest))
  first_is b c e f = rw (e, f) refl

  any_is : (c : Bool) → test n.name ≡ c
      → list_any (λ n. test n.name) (n ∷ rest) ≡ (c || list_any (λ n. test n.name) rest)
  any_is c f = rw f refl

  -- an instance that has the name and is included
  pub seeking_ends : test n.name ≡ true → n.included ≡ true → first_index test ns ≡ Some i
  seeking_ends f e =
      let at : i + 0 ≡ i = omega arith in
      index_next ∙ ap (option_map (λ k. i + k)) (first_is true true e f) ∙ ap Some at

  -- one that its condition leaves away
  pub seeking_left : test n.name ≡ true → n.included ≡ false → IsSeeking test ns (i + 1) true
  seeking_left f e = record {
    index = index_next ∙ ap (option_map (λ k. i + k)) (first_is false true e f) ∙ one_more i (first_index test rest);
    any = any_next ∙ ap (λ b. left || b) (any_is true f) ∙ or_true left (list_any (λ n. test n.name) rest);
  }

  and_false : (b : Bool) → (if b && false then Some 0 else option_map (λ k. suc k) (first_index test rest))
      ≡ option_map (λ k. suc k) (first_index test rest)
  and_false true = refl
  and_false false = refl

  -- one with another name
  pub seeking_more : test n.name ≡ false → IsSeeking test ns (i + 1) left
  seeking_more f = record {
    index =
        index_next
        ∙ ap (option_map (λ k. i + k)) (first_is n.included false refl f ∙ and_false n.included)
        ∙ one_more i (first_index test rest);
    any = any_next ∙ ap (λ b. left || b) (any_is false f);
  }

pub nothing_more : (test : List ℕ → Bool) (ns : List Named) (i : ℕ) (left : Bool) → drop i ns ≡ []
    → IsSeeking test ns i left → (first_index test ns ≡ None) × (list_any (λ n. test n.name) ns ≡ left)
nothing_more test ns i left e h = (
  h.index ∙ ap (λ xs. option_map (λ k. i + k) (first_index test xs)) e,
  h.any ∙ ap (λ xs. left || list_any (λ n. test n.name) xs) e ∙ or_false left,
)

module _ (test : List ℕ → Bool) (vs : List Value) (i : ℕ) (left : Bool) where
  abbrev names : List Named
  names = map named_of (map json vs)

  module _ (v : Value) (e : Entry) (b h : Bool) (less : i < length vs) (at : v ≡ get_or vs i v)
      (is : entry_of e ≡ named_of (json v)) (named : b ≡ test (chars e.name.now)) (hit : h ≡ (e.included && b))
      (here : IsSeeking test names i left) where
    abbrev n : Named
    n = named_of (json v)

    name_is_wanted : test n.name ≡ b
    name_is_wanted = ap (λ (m : Named). test m.name) (sym is) ∙ sym named

    included_named : n.included ≡ e.included
    included_named = ap (λ (m : Named). m.included) (sym is)

    pub hit_here : h ≡ true → first_index test names ≡ Some i
    hit_here q =
        let two = both e.included b (sym hit ∙ q) in
        seeking_ends test names i n left (next_of named_of json vs i v less at) here
        (name_is_wanted ∙ two.1) (included_named ∙ two.0)

    further : (c : Bool) → b ≡ c → (e.included && c) ≡ false → IsSeeking test names (i + 1) (left || c)
    further true q r =
        subst (IsSeeking test names (i + 1)) (or_one left)
        (seeking_left test names i n left (next_of named_of json vs i v less at) here (name_is_wanted ∙ q)
        (included_named ∙ first_fails_alone e.included r))
      where
        or_one : (c : Bool) → true ≡ (c || true)
        or_one true = refl
        or_one false = refl
    further false q r =
        subst (IsSeeking test names (i + 1)) (or_none left)
        (seeking_more test names i n left (next_of named_of json vs i v less at) here (name_is_wanted ∙ q))
      where
        or_none : (c : Bool) → c ≡ (c || false)
        or_none true = refl
        or_none false = refl

    pub hit_later : h ≡ false → IsSeeking test names (i + 1) (left || b)
    hit_later q = further b refl (sym hit ∙ q)

  pub hit_nowhere : length vs ≤ i → IsSeeking test names i left
      → (first_index test names ≡ None) × (list_any (λ n. test n.name) names ≡ left)
  hit_nowhere h here = nothing_more test names i left (no_more named_of json vs i h) here

-- ---- nested deployments

-- a place that is later by so many
abbrev pub moved : ℕ → ℕ × ℕ → ℕ × ℕ
moved i q = (i + q.0, q.1)

abbrev later_by : ℕ × ℕ → ℕ × ℕ
later_by q = (suc q.0, q.1)

abbrev at_place : ℕ → ℕ → Option (ℕ × ℕ)
at_place j k = Some (k, j)

-- what is sought among these nested deployments, of which those up to a place were looked at
pub record IsSeekingIn (test : List ℕ → Bool) (nss : List (List Named)) (i : ℕ) (left : Bool) : Type 0 where
  pub included : first_included test nss ≡ option_map (moved i) (first_included test (drop i nss))
  pub any : has_name test nss ≡ (left || has_name test (drop i nss))

from_first : (o : Option (ℕ × ℕ)) → o ≡ option_map (moved 0) o
from_first (Some q) = let e : 0 + q.0 ≡ q.0 = omega arith in ap (at_place q.1) (sym e)
from_first None = refl

pub seeking_in_begins : (test : List ℕ → Bool) (nss : List (List Named)) → IsSeekingIn test nss 0 false
seeking_in_begins test nss = record { included = from_first (first_included test nss); any = refl }

one_later : (i : ℕ) (o : Option (ℕ × ℕ))
    → option_map (moved i) (option_map later_by o) ≡ option_map (moved (i + 1)) o
one_later i (Some q) = let same : i + suc q.0 ≡ (i + 1) + q.0 = omega arith in ap (at_place q.1) same
one_later i None = refl

module _ (test : List ℕ → Bool) (nss : List (List Named)) (i : ℕ) (ns : List Named) (left : Bool)
    (next : drop i nss ≡ ns ∷ drop (i + 1) nss) (here : IsSeekingIn test nss i left) where
  abbrev later : List (List Named)
  later = drop (i + 1) nss

  included_next : first_included test nss ≡ option_map (moved i) (first_included test (ns ∷ later))
  included_next = here.included ∙ ap (λ xs. option_map (moved i) (first_included test xs)) next

  name_next : has_name test nss ≡ (left || has_name test (ns ∷ later))
  name_next = here.any ∙ ap (λ xs. left || has_name test xs) next

  included_is : (o : Option ℕ) → first_index test ns ≡ o
      → first_included test nss ≡ option_map (moved i) (here_or o (first_included test later))
  included_is o e =
      included_next ∙ ap (λ p. option_map (moved i) (here_or p (first_included test later))) e

  name_is : (b : Bool) → list_any (λ n. test n.name) ns ≡ b → has_name test nss ≡ (left || (b || has_name test later))
  name_is b e = name_next ∙ ap (λ c. left || (c || has_name test later)) e

  pub found_here : (k : ℕ) → first_index test ns ≡ Some k → IsSoughtIn test nss (seeks.Found i k)
  found_here k e =
      let at : i + 0 ≡ i = omega arith in
      sym (ap (λ o. sought_by o (has_name test nss)) (included_is (Some k) e ∙ ap (at_place k) at))

  pub left_here : (first_index test ns ≡ None) × (list_any (λ n. test n.name) ns ≡ true)
      → IsSeekingIn test nss (i + 1) true
  left_here h = record {
    included = included_is None h.0 ∙ one_later i (first_included test later);
    any = name_is true h.1 ∙ or_true left (has_name test later);
  }

  pub not_named_here : (first_index test ns ≡ None) × (list_any (λ n. test n.name) ns ≡ false)
      → IsSeekingIn test nss (i + 1) left
  not_named_here h = record {
    included = included_is None h.0 ∙ one_later i (first_included test later);
    any = name_is false h.1;
  }

none_sought : (test : List ℕ → Bool) (nss : List (List Named)) (i : ℕ) (left : Bool) → drop i nss ≡ []
    → IsSeekingIn test nss i left → sought_by (first_included test nss) (has_name test nss) ≡ sought_by None left
none_sought test nss i left e h =
    ap (λ o. sought_by o (has_name test nss))
    (h.included ∙ ap (λ xs. option_map (moved i) (first_included test xs)) e)
    ∙ ap (λ b. sought_by None b) (h.any ∙ ap (λ xs. left || has_name test xs) e ∙ or_false left)

pub left_in_all : (test : List ℕ → Bool) (nss : List (List Named)) (i : ℕ) → drop i nss ≡ []
    → IsSeekingIn test nss i true → IsSoughtIn test nss seeks.LeftAway
left_in_all test nss i e h = sym (none_sought test nss i true e h)

pub none_in_all : (test : List ℕ → Bool) (nss : List (List Named)) (i : ℕ) → drop i nss ≡ []
    → IsSeekingIn test nss i false → IsSoughtIn test nss seeks.NotHere
none_in_all test nss i e h = sym (none_sought test nss i false e h)

module _ (test : List ℕ → Bool) (vs : List Value) (i : ℕ) (left : Bool) where
  abbrev listed : List (List Named)
  listed = map instances_of (map json vs)

  module _ (v : Value) (h : Hit) (less : i < length vs) (at : v ≡ get_or vs i v)
      (is : IsHit h (first_index test (instances_of (json v)))
      (list_any (λ n. test n.name) (instances_of (json v))))
      (here : IsSeekingIn test listed i left) where
    next_is : drop i listed ≡ instances_of (json v) ∷ drop (i + 1) listed
    next_is = next_of instances_of json vs i v less at

    index_is : (x : Hit) (o : Option ℕ) (b : Bool) (k : ℕ) → IsHit x o b → index_in x ≡ Some k → o ≡ Some k
    index_is (hit.At j) o b k q e = q ∙ e
    index_is hit.LeftAway o b k q e = absurd (cc)
    index_is hit.NotHere o b k q e = absurd (cc)

    pub sought_here : (k : ℕ) → index_in h ≡ Some k → IsSoughtIn test listed (seeks.Found i k)
    sought_here k e =
        found_here test listed i (instances_of (json v)) left next_is here k
        (index_is h (first_index test (instances_of (json v)))
        (list_any (λ n. test n.name) (instances_of (json v))) k is e)

    or_one : (c : Bool) → true ≡ (c || true)
    or_one true = refl
    or_one false = refl

    or_none : (c : Bool) → c ≡ (c || false)
    or_none true = refl
    or_none false = refl

    later_by_hit : (x : Hit)
        → IsHit x (first_index test (instances_of (json v))) (list_any (λ n. test n.name) (instances_of (json v)))
        → index_in x ≡ None → IsSeekingIn test listed (i + 1) (left || is_left x)
    later_by_hit (hit.At j) q e = absurd (cc)
    later_by_hit hit.LeftAway q e =
        subst (IsSeekingIn test listed (i + 1)) (or_one left)
        (left_here test listed i (instances_of (json v)) left next_is here q)
    later_by_hit hit.NotHere q e =
        subst (IsSeekingIn test listed (i + 1)) (or_none left)
        (not_named_here test listed i (instances_of (json v)) left next_is here q)

    pub sought_later : index_in h ≡ None → IsSeekingIn test listed (i + 1) (left || is_left h)
    sought_later e = later_by_hit h is e

  pub sought_left : length vs ≤ i → IsSeekingIn test listed i true → IsSoughtIn test listed seeks.LeftAway
  sought_left h here = left_in_all test listed i (no_more instances_of json vs i h) here

  pub sought_nowhere : length vs ≤ i → IsSeekingIn test listed i false → IsSoughtIn test listed seeks.NotHere
  sought_nowhere h here = none_in_all test listed i (no_more instances_of json vs i h) here

-- the items of a value
pub items_there : (j : Json) (js : List Json) → Some js ≡ kinds.items_of j → items_of j ≡ js
items_there (array ks) js e = let same : js ≡ items ks = cc in sym same
items_there null js e = absurd (cc)
items_there (bool b) js e = absurd (cc)
items_there (int z) js e = absurd (cc)
items_there (text s) js e = absurd (cc)
items_there (object ms) js e = absurd (cc)

pub items_nowhere : (j : Json) → None ≡ kinds.items_of j → items_of j ≡ []
items_nowhere (array ks) e = absurd (cc)
items_nowhere null e = refl
items_nowhere (bool b) e = refl
items_nowhere (int z) e = refl
items_nowhere (text s) e = refl
items_nowhere (object ms) e = refl

-- what is sought in a value
pub sought_in : (test : List ℕ → Bool) (s : Sought) (j : Json) (vs : List Value) → items_of j ≡ map json vs
    → IsSoughtIn test (map instances_of (map json vs)) s → sought_of s ≡ sought test j
unfolding sought
sought_in test s j vs e h =
    h ∙ sym (ap (λ js. sought_by (first_included test (map instances_of js)) (has_name test (map instances_of js))) e)

pub nothing_sought : (test : List ℕ → Bool) (j : Json) → items_of j ≡ [] → not_here ≡ sought test j
unfolding sought
nothing_sought test j e =
    sym (ap (λ js. sought_by (first_included test (map instances_of js)) (has_name test (map instances_of js))) e)

-- ---- numbers

module _ (n : ℕ) (x : cells.Listed) (xs : List cells.Listed) where
  by_truth_of : (b : Bool) → cells.is_nested x ≡ b
      → nested_from n (x ∷ xs) ≡ (if b then n ∷ nested_from (n + 1) xs else nested_from (n + 1) xs)
  by_truth_of b e =
      let at : suc n ≡ n + 1 = omega arith in
      ap (λ c. if c then n ∷ nested_from (suc n) xs else nested_from (suc n) xs) e
      ∙ ap (λ m. if b then n ∷ nested_from m xs else nested_from m xs) at

  pub number_here : cells.is_nested x ≡ true → slice_get (nested_from n (x ∷ xs)) 0 ≡ Some n
  number_here e = ap (λ ns. slice_get ns 0) (by_truth_of true e)

  pub number_later : (k m : ℕ) → cells.is_nested x ≡ true → k ≡ m + 1
      → slice_get (nested_from n (x ∷ xs)) k ≡ slice_get (nested_from (n + 1) xs) m
  number_later k m e h =
      let at : k ≡ suc m = omega (arith, h) in
      ap (λ ns. slice_get ns k) (by_truth_of true e) ∙ ap (slice_get (n ∷ nested_from (n + 1) xs)) at

  pub number_skipped : (k : ℕ) → cells.is_nested x ≡ false
      → slice_get (nested_from n (x ∷ xs)) k ≡ slice_get (nested_from (n + 1) xs) k
  number_skipped k e = ap (λ ns. slice_get ns k) (by_truth_of false e)
