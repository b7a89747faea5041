-- Values with each text changed.
use Rattle.std.proofs.Common.{◌≡◌, ◌≤◌, ◌<◌, ◌+◌, ℕ, suc, max, length, get_or, take, List, [], ◌∷◌, ◌++◌, map}
use Rattle.std.proofs.Common.{refl, sym, ap, ap₂, ◌∙◌, arith, subst, add-one}
use Rattle.std.proofs.lemmas.List.{take_all}
use Rattle.std.specs.List.Sorted.{IsStrictlySortedBy}
use Rattle.arm_expr.specs.Brackets.{escaped}
use Rattle.arm_value.specs.Json.{Json, null, bool, int, text, array, object, Row, no_items, item, Pairs, no_pairs, pair}
use Rattle.arm_value.specs.Json.{Member, row, pairs, keys, nesting, row_nesting, pairs_nesting, items_nesting}
use Rattle.arm_value.specs.Json.{members_nesting, key_cmp, IsInOrder}
use Rattle.arm_value.specs.View.{json, member}
use Rattle.arm_value.specs.declared.value.Value.{Value}
use Rattle.arm_value.specs.declared.value.Field.{Field}
use Rattle.arm_value.proofs.JsonLemmas as parts
use Rattle.plain_values.specs.Plain.{each_text, row_texts, pairs_texts, member_texts, plain_or, meant_text, meant}
use Rattle.plain_values.specs.Plain.{written_plainly}
use Rattle.arm_expr.proofs.BracketLemmas.{meaning-escaped}
use Rattle.foundation.proofs.Lists.{map-both}

-- a changed value nests as deep
mutual
  pub nesting-each_text : (f : List ℕ → List ℕ) (j : Json) → nesting (each_text f j) ≡ nesting j
  nesting-each_text f null = refl
  nesting-each_text f (bool b) = refl
  nesting-each_text f (int z) = refl
  nesting-each_text f (text t) = refl
  nesting-each_text f (array js) = ap suc (nesting-row_texts f js)
  nesting-each_text f (object ms) = ap suc (nesting-pairs_texts f ms)

  nesting-row_texts : (f : List ℕ → List ℕ) (js : Row) → row_nesting (row_texts f js) ≡ row_nesting js
  nesting-row_texts f no_items = refl
  nesting-row_texts f (item j js) = ap₂ max (nesting-each_text f j) (nesting-row_texts f js)

  nesting-pairs_texts : (f : List ℕ → List ℕ) (ms : Pairs) → pairs_nesting (pairs_texts f ms) ≡ pairs_nesting ms
  nesting-pairs_texts f no_pairs = refl
  nesting-pairs_texts f (pair k j ms) = ap₂ max (nesting-each_text f j) (nesting-pairs_texts f ms)

-- items and members are changed one by one
pub row-each : (f : List ℕ → List ℕ) (js : List Json) → row (map (each_text f) js) ≡ row_texts f (row js)
row-each f [] = refl
row-each f (j ∷ js) = ap (item (each_text f j)) (row-each f js)

pub pairs-each : (f : List ℕ → List ℕ) (ms : List Member) → pairs (map (member_texts f) ms) ≡ pairs_texts f (pairs ms)
pairs-each f [] = refl
pairs-each f (m ∷ ms) = ap (pair m.0 (each_text f m.1)) (pairs-each f ms)

keys-each : (f : List ℕ → List ℕ) (ms : List Member) → keys (map (member_texts f) ms) ≡ keys ms
keys-each f [] = refl
keys-each f (m ∷ ms) = ap (λ r. m.0 ∷ r) (keys-each f ms)

-- ---- loops

-- the next value is within what all items are within
pub next_item_within : (f : List ℕ → List ℕ) (vs : List Value) (js : List Json) (i : ℕ) (v : Value) (k : Json)
    (n : ℕ) → map json vs ≡ js → i < length vs → v ≡ get_or vs i v → k ≡ each_text f (json v) → items_nesting js ≤ n
    → nesting k ≤ n
next_item_within f vs js i v k n e h is s w =
    omega (arith, parts.item_nests vs i v h is, ap items_nesting e, ap nesting s, nesting-each_text f (json v))

pub next_member_within : (f : List ℕ → List ℕ) (fs : List Field) (ms : List Member) (i : ℕ) (d : Field) (k : Json)
    (n : ℕ) → map member fs ≡ ms → i < length fs → d ≡ get_or fs i d → k ≡ each_text f (json d.value)
    → members_nesting ms ≤ n → nesting k ≤ n
next_member_within f fs ms i d k n e h is s w =
    omega (
      arith,
      parts.member_nests fs i d h is,
      ap members_nesting e,
      ap nesting s,
      nesting-each_text f (json d.value),
    )

pub member_within : (fs : List Field) (ms : List Member) (i : ℕ) (d : Field) → map member fs ≡ ms → i < length fs
    → d ≡ get_or fs i d → nesting (json d.value) ≤ members_nesting ms
member_within fs ms i d e h is = omega (arith, parts.member_nests fs i d h is, ap members_nesting e)

-- one item more
pub item_more : (f : List ℕ → List ℕ) (made new : List Json) (vs : List Value) (i : ℕ) (v : Value) (k : Json)
    → made ≡ map (λ x. each_text f (json x)) (take i vs) → i < length vs → v ≡ get_or vs i v
    → k ≡ each_text f (json v) → new ≡ made ++ k ∷ [] → new ≡ map (λ x. each_text f (json x)) (take (i + 1) vs)
item_more f made new vs i v k a h is s n =
    n ∙ ap₂ (λ ms j. ms ++ j ∷ []) a s
    ∙ sym (rw add-one (parts.map-take-more (λ x. each_text f (json x)) vs i v h is))

pub member_more : (f : List ℕ → List ℕ) (made new : List Member) (fs : List Field) (i : ℕ) (d : Field)
    (name : List ℕ) (k : Json) → made ≡ map (λ x. member_texts f (member x)) (take i fs) → i < length fs
    → d ≡ get_or fs i d → name ≡ d.name → k ≡ each_text f (json d.value) → new ≡ made ++ (name, k) ∷ []
    → new ≡ map (λ x. member_texts f (member x)) (take (i + 1) fs)
member_more f made new fs i d name k a h is e s n =
    let last : (name, k) ≡ member_texts f (member d) = λ x. (e x, s x) in
    n ∙ ap₂ (λ ms (m : Member). ms ++ m ∷ []) a last
    ∙ sym (rw add-one (parts.map-take-more (λ x. member_texts f (member x)) fs i d h is))

-- what the loops end with
pub all_items : (f : List ℕ → List ℕ) (made : List Json) (vs : List Value) (js : List Json) (i : ℕ)
    → map json vs ≡ js → length vs ≤ i → made ≡ map (λ x. each_text f (json x)) (take i vs)
    → made ≡ map (each_text f) js
all_items f made vs js i e h a =
    a ∙ ap (map (λ x. each_text f (json x))) (take_all i vs h) ∙ map-both json (each_text f) vs
    ∙ ap (map (each_text f)) e

pub all_members : (f : List ℕ → List ℕ) (made : List Member) (fs : List Field) (ms : List Member) (i : ℕ)
    → map member fs ≡ ms → length fs ≤ i → made ≡ map (λ x. member_texts f (member x)) (take i fs)
    → made ≡ map (member_texts f) ms
all_members f made fs ms i e h a =
    a ∙ ap (map (λ x. member_texts f (member x))) (take_all i fs h) ∙ map-both member (member_texts f) fs
    ∙ ap (map (member_texts f)) e

in_order : (f : List ℕ → List ℕ) (ms : List Member) → IsInOrder ms → IsInOrder (map (member_texts f) ms)
in_order f ms o = subst (IsStrictlySortedBy key_cmp) (sym (keys-each f ms)) o

-- the members so far and the next are in order
pub member_last : (f : List ℕ → List ℕ) (made : List Member) (fs : List Field) (ms : List Member) (i : ℕ) (d : Field)
    (name : List ℕ) (k : Json) → map member fs ≡ ms → IsInOrder ms
    → made ≡ map (λ x. member_texts f (member x)) (take i fs) → i < length fs → d ≡ get_or fs i d → name ≡ d.name
    → k ≡ each_text f (json d.value) → IsInOrder (made ++ (name, k) ∷ [])
member_last f made fs ms i d name k all o a h is e s =
    let more = member_more f made (made ++ (name, k) ∷ []) fs i d name k a h is e s refl in
    let front = parts.IsInOrder-take (map member fs) (i + 1) (subst IsInOrder (sym all) o) in
    subst IsInOrder (sym (more ∙ map-both member (member_texts f) (take (i + 1) fs)
    ∙ ap (map (member_texts f)) (parts.map-take member fs (i + 1))))
    (in_order f (take (i + 1) (map member fs)) front)

-- ---- back and forth

mutual
  each_back : (f g : List ℕ → List ℕ) → ((t : List ℕ) → f (g t) ≡ t) → (j : Json)
      → each_text f (each_text g j) ≡ j
  each_back f g h null = refl
  each_back f g h (bool b) = refl
  each_back f g h (int z) = refl
  each_back f g h (text t) = ap text (h t)
  each_back f g h (array js) = ap array (row_back f g h js)
  each_back f g h (object ms) = ap object (pairs_back f g h ms)

  row_back : (f g : List ℕ → List ℕ) → ((t : List ℕ) → f (g t) ≡ t) → (js : Row)
      → row_texts f (row_texts g js) ≡ js
  row_back f g h no_items = refl
  row_back f g h (item j js) = ap₂ item (each_back f g h j) (row_back f g h js)

  pairs_back : (f g : List ℕ → List ℕ) → ((t : List ℕ) → f (g t) ≡ t) → (ms : Pairs)
      → pairs_texts f (pairs_texts g ms) ≡ ms
  pairs_back f g h no_pairs = refl
  pairs_back f g h (pair k j ms) = ap₂ (pair k) (each_back f g h j) (pairs_back f g h ms)

text_back : (t : List ℕ) → meant_text (escaped t) ≡ t
text_back t = ap (plain_or (escaped t)) (meaning-escaped t)

pub written_means : (j : Json) → meant (written_plainly j) ≡ j
written_means j = each_back meant_text escaped text_back j
