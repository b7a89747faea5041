-- How deep what is built nests, and resources that are described one after another.
use Rattle.std.proofs.Common.{◌≡◌, ◌<◌, ◌≤◌, ◌+◌, ℕ, suc, length, get_or, take, Bool, List, [], ◌∷◌}
use Rattle.std.proofs.Common.{◌++◌, map, Some, None, bytes_eq, refl, sym, ap, ◌∙◌, subst, arith, add-one}
use Rattle.std.proofs.Common.{chars}
use Rattle.std.proofs.lemmas.List.{take_all}
use Rattle.arm_value.specs.Json.{Json, null, bool, int, text, array, object, Pairs}
use Rattle.arm_value.specs.Json.{nesting, row_nesting, pairs_nesting, items_nesting}
use Rattle.arm_value.specs.Json.{members_nesting}
use Rattle.arm_value.specs.Look.{first_by, or_else, look, is_same_folded}
use Rattle.arm_value.specs.View.{json, member}
use Rattle.arm_value.specs.declared.value.Field.{Field}
use Rattle.arm_value.specs.declared.value.Value.{Value}
use Rattle.arm_value.proofs.JsonLemmas.{item_nests, member_nests, map-take-more, first_by_nests}
use Rattle.arm_value.proofs.TreeLemmas.{row-items, pairs-members}
use Rattle.template_meaning.specs.Values.{Place, inside, items_in, members_in}
use Rattle.template_meaning.specs.Resources.{Listed}
use Rattle.template_meaning.specs.Describes.{DescribesResource, DescribesResources}
use Rattle.template_tree.specs.Tree.{ResourceTree, trees}
use Rattle.foundation.proofs.Lists.{map-both}

-- ---- nesting

-- how deep there is something
abbrev pub depth : Place → ℕ
depth None = 0
depth (Some j) = suc (nesting j)

-- no deeper than so much, where it is there
abbrev Within : ℕ → Place → Type 0
Within n None = Unit {0}
Within n (Some j) = nesting j ≤ n

first_within : (p : List ℕ → Bool) (ms : Pairs) (o : Place) → first_by p ms ≡ o → Within (pairs_nesting ms) o
first_within p ms None e = tt
first_within p ms (Some j) e = first_by_nests p ms j e

either_within : (n : ℕ) (a b : Place) → Within n a → Within n b → Within n (or_else a b)
either_within n None b h g = g
either_within n (Some j) b h g = h

within_depth : (n : ℕ) (o : Place) → Within n o → depth o ≤ suc n
within_depth n None h = omega arith
within_depth n (Some j) h = omega (arith, h)

-- a member is less deep than what it is a member of
pub look_below : (name : List ℕ) (j : Json) → depth (look name j) ≤ nesting j
look_below name null = omega arith
look_below name (bool b) = omega arith
look_below name (int z) = omega arith
look_below name (text t) = omega arith
look_below name (array js) = omega arith
look_below name (object ms) =
    within_depth (pairs_nesting ms)
    (or_else (first_by (bytes_eq name) ms) (first_by (is_same_folded name) ms))
    (either_within (pairs_nesting ms) (first_by (bytes_eq name) ms) (first_by (is_same_folded name) ms)
    (first_within (bytes_eq name) ms _ refl) (first_within (is_same_folded name) ms _ refl))

pub inside_within : (name : List ℕ) (o : Place) → depth (inside name o) ≤ depth o
inside_within name None = omega arith
inside_within name (Some j) = omega (arith, look_below (chars name) j)

pub inside_below : (name : List ℕ) (j : Json) → depth (inside name (Some j)) ≤ nesting j
inside_below name j = look_below (chars name) j

pub inside_twice : (n m : List ℕ) (j : Json) → depth (inside n (inside m (Some j))) ≤ nesting j
inside_twice n m j = omega (arith, inside_within n (inside m (Some j)), look_below (chars m) j)

-- an item is less deep than its array
items_below : (o : Place) (n : ℕ) → n ≤ items_nesting (items_in o) → (items_in o ≡ [] → ⊥) → suc n < depth o
items_below None n h g = absurd (g refl)
items_below (Some null) n h g = absurd (g refl)
items_below (Some (bool b)) n h g = absurd (g refl)
items_below (Some (int z)) n h g = absurd (g refl)
items_below (Some (text t)) n h g = absurd (g refl)
items_below (Some (array js)) n h g = omega (arith, h, ap row_nesting (row-items js))
items_below (Some (object ms)) n h g = absurd (g refl)

not_none : {A B : Type 0} (f : A → B) (xs : List A) (ys : List B) (i : ℕ) → map f xs ≡ ys → i < length xs
    → ys ≡ [] → ⊥
not_none f [] ys i e h n = absurd (omega arith)
not_none f (x ∷ xs) ys i e h n = let d = e ∙ n in cc

pub item_below : (o : Place) (vs : List Value) (i : ℕ) (v : Value) → map json vs ≡ items_in o → i < length vs
    → v ≡ get_or vs i v → suc (nesting (json v)) < depth o
item_below o vs i v e h is =
    items_below o (nesting (json v)) (omega (arith, item_nests vs i v h is, ap items_nesting e))
    (not_none json vs (items_in o) i e h)

-- a member's value is less deep than its object
members_below : (o : Place) (n : ℕ) → n ≤ members_nesting (members_in o) → (members_in o ≡ [] → ⊥) → suc n < depth o
members_below None n h g = absurd (g refl)
members_below (Some null) n h g = absurd (g refl)
members_below (Some (bool b)) n h g = absurd (g refl)
members_below (Some (int z)) n h g = absurd (g refl)
members_below (Some (text t)) n h g = absurd (g refl)
members_below (Some (array js)) n h g = absurd (g refl)
members_below (Some (object ms)) n h g = omega (arith, h, ap pairs_nesting (pairs-members ms))

pub member_below : (o : Place) (fs : List Field) (i : ℕ) (f : Field) → map member fs ≡ members_in o → i < length fs
    → f ≡ get_or fs i f → suc (nesting (json f.value)) < depth o
member_below o fs i f e h is =
    members_below o (nesting (json f.value)) (omega (arith, member_nests fs i f h is, ap members_nesting e))
    (not_none member fs (members_in o) i e h)

-- ---- resources one after another

describes_push : (ls : List Listed) (rs : List ResourceTree) (l : Listed) (r : ResourceTree)
    → DescribesResources ls (trees rs) → DescribesResource l r
    → DescribesResources (ls ++ l ∷ []) (trees (rs ++ r ∷ []))
describes_push [] [] l r d h = (h, refl)
describes_push [] (q ∷ rs) l r d h = absurd d
describes_push (k ∷ ls) [] l r d h = cc
describes_push (k ∷ ls) (q ∷ rs) l r d h = (d.0, describes_push ls rs l r d.1 h)

-- one resource more
pub described_more : {A : Type 0} (f : A → Listed) (xs : List A) (i : ℕ) (x : A) (rs new : List ResourceTree)
    (r : ResourceTree) → DescribesResources (map f (take i xs)) (trees rs) → i < length xs → x ≡ get_or xs i x
    → DescribesResource (f x) r → new ≡ rs ++ r ∷ [] → DescribesResources (map f (take (i + 1) xs)) (trees new)
described_more f xs i x rs new r d h is one n =
    subst (λ ls. DescribesResources ls (trees new)) (sym (rw add-one (map-take-more f xs i x h is)))
    (subst (λ qs. DescribesResources (map f (take i xs) ++ f x ∷ []) (trees qs)) (sym n)
    (describes_push (map f (take i xs)) rs (f x) r d one))

-- all resources
pub described_all : {A B : Type 0} (v : A → B) (f : B → Listed) (xs : List A) (ys : List B) (i : ℕ)
    (rs : List ResourceTree) → map v xs ≡ ys → length xs ≤ i
    → DescribesResources (map (λ x. f (v x)) (take i xs)) (trees rs) → DescribesResources (map f ys) (trees rs)
described_all v f xs ys i rs e h d =
    subst (λ ls. DescribesResources ls (trees rs))
    (ap (map (λ x. f (v x))) (take_all i xs h) ∙ map-both v f xs ∙ ap (map f) e) d
