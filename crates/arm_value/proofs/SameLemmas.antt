-- Trees that are the same are equal.
use Rattle.std.proofs.Common.{◌≡◌, suc, length, Bool, true, false, true≢false, ◌&&◌, List, [], ◌∷◌, ◌↔◌, map, refl}
use Rattle.std.proofs.Common.{sym, ap, ap₂, ◌∙◌}
use Rattle.std.proofs.lemmas.List.{length-map}
use Rattle.std.proofs.lemmas.Slice.Eq.{bytes_eq-Decides}
use Rattle.std.proofs.lemmas.Bool.Decides.{Decides-int_eq}
use Rattle.arm_value.specs.Json.{Json, null, bool, int, text, array, object, Row, no_items, item, Pairs, no_pairs}
use Rattle.arm_value.specs.Json.{pair, Member, row, pairs, items, members}
use Rattle.arm_value.specs.View.{json, member}
use Rattle.arm_value.specs.Same.{is_same, is_same_row, is_same_pairs}
use Rattle.arm_value.specs.declared.value.Value.{Value}
use Rattle.arm_value.specs.declared.value.Field.{Field}
use Rattle.foundation.proofs.TruthValues.{both, and_false}
use Rattle.arm_value.proofs.TreeLemmas.{members-pairs}

rows_differ : (js ks : List Json) → (length js ≡ length ks → ⊥) → is_same_row (row js) (row ks) ≡ false
rows_differ [] [] h = absurd (h refl)
rows_differ [] (k ∷ ks) h = refl
rows_differ (j ∷ js) [] h = refl
rows_differ (j ∷ js) (k ∷ ks) h = and_false _ _ (rows_differ js ks (λ e. h (ap suc e)))

pub items_differ : (vs ws : List Value) (js ks : List Json) → map json vs ≡ js → map json ws ≡ ks
    → (length vs ≡ length ws → ⊥) → false ≡ is_same_row (row js) (row ks)
items_differ vs ws js ks a b h =
    sym (rows_differ js ks
    (λ e. h (sym (length-map vs json) ∙ ap length a ∙ e ∙ sym (ap length b) ∙ length-map ws json)))

pairs_differ : (ms ns : List Member) → (length ms ≡ length ns → ⊥) → is_same_pairs (pairs ms) (pairs ns) ≡ false
pairs_differ [] [] h = absurd (h refl)
pairs_differ [] (k ∷ ks) h = refl
pairs_differ (j ∷ js) [] h = refl
pairs_differ (j ∷ js) (k ∷ ks) h = and_false _ _ (and_false _ _ (pairs_differ js ks (λ e. h (ap suc e))))

pub fields_differ : (vs ws : List Field) (js ks : List Member) → map member vs ≡ js → map member ws ≡ ks
    → (length vs ≡ length ws → ⊥) → false ≡ is_same_pairs (pairs js) (pairs ks)
fields_differ vs ws js ks a b h =
    sym (pairs_differ js ks (λ e. h (sym (length-map vs member) ∙ ap length a ∙ e ∙ sym (ap length b)
    ∙ length-map ws member)))

bools : (a b : Bool) → is_same (bool a) (bool b) ≡ true → a ≡ b
bools true true e = refl
bools false false e = refl
bools true false e = absurd (true≢false (sym e))
bools false true e = absurd (true≢false (sym e))

mutual
  pub equal_from_same : (j k : Json) → is_same j k ≡ true → j ≡ k
  equal_from_same null null e = refl
  equal_from_same (bool a) (bool b) e = ap bool (bools a b e)
  equal_from_same (int x) (int y) e = ap int ((Decides-int_eq x y).0 e)
  equal_from_same (text s) (text t) e = ap text ((bytes_eq-Decides s t).0 e)
  equal_from_same (array js) (array ks) e = ap array (rows_equal js ks e)
  equal_from_same (object ms) (object ns) e = ap object (pairs_equal ms ns e)
  equal_from_same _ _ e = absurd (true≢false (sym e))

  rows_equal : (js ks : Row) → is_same_row js ks ≡ true → js ≡ ks
  rows_equal no_items no_items e = refl
  rows_equal (item j js) (item k ks) e = let h = both _ _ e in ap₂ item (equal_from_same j k h.0) (rows_equal js ks h.1)
  rows_equal _ _ e = absurd (true≢false (sym e))

  pairs_equal : (ms ns : Pairs) → is_same_pairs ms ns ≡ true → ms ≡ ns
  pairs_equal no_pairs no_pairs e = refl
  pairs_equal (pair s j ms) (pair t k ns) e =
      let h = both _ _ e in
      let g = both _ _ h.1 in
      λ i. pair ((bytes_eq-Decides s t).0 h.0 i) (equal_from_same j k g.0 i) (pairs_equal ms ns g.1 i)
  pairs_equal _ _ e = absurd (true≢false (sym e))

pub items-row : (js : List Json) → items (row js) ≡ js
items-row [] = refl
items-row (j ∷ js) = ap (λ r. j ∷ r) (items-row js)

same_bool : (a : Bool) → is_same (bool a) (bool a) ≡ true
same_bool true = refl
same_bool false = refl

mutual
  is_same-itself : (j : Json) → is_same j j ≡ true
  is_same-itself null = refl
  is_same-itself (bool a) = same_bool a
  is_same-itself (int x) = (Decides-int_eq x x).1 refl
  is_same-itself (text s) = (bytes_eq-Decides s s).1 refl
  is_same-itself (array js) = is_same_row-itself js
  is_same-itself (object ms) = is_same_pairs-itself ms

  is_same_row-itself : (js : Row) → is_same_row js js ≡ true
  is_same_row-itself no_items = refl
  is_same_row-itself (item j js) = ap₂ (λ a b. a && b) (is_same-itself j) (is_same_row-itself js)

  is_same_pairs-itself : (ms : Pairs) → is_same_pairs ms ms ≡ true
  is_same_pairs-itself no_pairs = refl
  is_same_pairs-itself (pair s j ms) =
      ap₂ (λ a b. a && b) ((bytes_eq-Decides s s).1 refl)
      (ap₂ (λ a b. a && b) (is_same-itself j) (is_same_pairs-itself ms))

-- a test that says whether trees are the same says whether they are equal
pub decides_equal : (r : Bool) (j k : Json) → r ≡ is_same j k → (r ≡ true) ↔ (j ≡ k)
decides_equal r j k e = (λ t. equal_from_same j k (sym e ∙ t), λ s. e ∙ ap (is_same j) (sym s) ∙ is_same-itself j)

rows_are_one : (js ks : List Json) → row js ≡ row ks → js ≡ ks
rows_are_one js ks e = sym (items-row js) ∙ ap items e ∙ items-row ks

pairs_are_one : (ms ns : List Member) → pairs ms ≡ pairs ns → ms ≡ ns
pairs_are_one ms ns e = sym (members-pairs ms) ∙ ap members e ∙ members-pairs ns

pub decides_equal_items : (r : Bool) (js ks : List Json) → r ≡ is_same_row (row js) (row ks) → (r ≡ true) ↔ (js ≡ ks)
decides_equal_items r js ks e = (
  λ t. rows_are_one js ks (rows_equal (row js) (row ks) (sym e ∙ t)),
  λ s. e
      ∙ ap (λ ls. is_same_row (row js) (row ls)) (sym s) ∙ is_same_row-itself (row js),
)

pub decides_equal_members : (r : Bool) (ms ns : List Member) → r ≡ is_same_pairs (pairs ms) (pairs ns) → (r ≡ true)
    ↔ (ms ≡ ns)
decides_equal_members r ms ns e = (
  λ t. pairs_are_one ms ns (pairs_equal (pairs ms) (pairs ns) (sym e ∙ t)),
  λ s. e
      ∙ ap (λ ls. is_same_pairs (pairs ms) (pairs ls)) (sym s) ∙ is_same_pairs-itself (pairs ms),
)
