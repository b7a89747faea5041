-- How the logic stores a tree: as one of its own trees of numbers.
use Rattle.std.specs.Prelude.{◌≡◌, ℕ, ◌==◌, cond, pos, negsuc, List, [], ◌∷◌, true, false, refl}
use Rattle.std.specs.Coded.{Coded, code_by, coded_ℕ, coded_list, coded×}
use base.Stored.{Gv, gnil, gnum, gcons}
use denote.Struct.Codes.{itself}
use mathlib.Core.Path.{ap}
use Rattle.arm_value.specs.Json.{Json, null, bool, int, text, array, object, Row, no_items, item, Pairs, no_pairs}
use Rattle.arm_value.specs.Json.{pair, Member}

abbrev from_text : List ℕ → Gv
from_text [] = gnil
from_text (c ∷ cs) = gcons (gnum c) (from_text cs)

abbrev to_text : Gv → List ℕ
to_text gnil = []
to_text (gnum n) = []
to_text (gcons (gnum c) rest) = c ∷ to_text rest
to_text (gcons gnil rest) = []
to_text (gcons (gcons a b) rest) = []

pub to_text-from_text : (s : List ℕ) → to_text (from_text s) ≡ s
to_text-from_text [] = refl
to_text-from_text (c ∷ cs) = ap (λ r. c ∷ r) (to_text-from_text cs)

abbrev mutual
  pub from_json : Json → Gv
  from_json null = gnil
  from_json (bool true) = gnum 1
  from_json (bool false) = gnum 0
  from_json (int (pos n)) = gcons (gnum 0) (gnum n)
  from_json (int (negsuc n)) = gcons (gnum 1) (gnum n)
  from_json (text s) = gcons (gnum 2) (from_text s)
  from_json (array js) = gcons (gnum 3) (from_row js)
  from_json (object ms) = gcons (gnum 4) (from_pairs ms)

  pub from_row : Row → Gv
  from_row no_items = gnil
  from_row (item j js) = gcons (from_json j) (from_row js)

  pub from_pairs : Pairs → Gv
  from_pairs no_pairs = gnil
  from_pairs (pair k j ms) = gcons (from_text k) (gcons (from_json j) (from_pairs ms))

abbrev to_number : Gv → ℕ
to_number gnil = 0
to_number (gnum n) = n
to_number (gcons a b) = 0

abbrev mutual
  pub to_json : Gv → Json
  to_json gnil = null
  to_json (gnum n) = bool (n == 1)
  to_json (gcons tag rest) =
      cond (to_number tag == 0) (int (pos (to_number rest))) (cond (to_number tag == 1) (int (negsuc (to_number rest)))
      (cond (to_number tag == 2) (text (to_text rest))
      (cond (to_number tag == 3) (array (to_row rest)) (object (to_pairs rest)))))

  pub to_row : Gv → Row
  to_row gnil = no_items
  to_row (gnum n) = no_items
  to_row (gcons a b) = item (to_json a) (to_row b)

  pub to_pairs : Gv → Pairs
  to_pairs gnil = no_pairs
  to_pairs (gnum n) = no_pairs
  to_pairs (gcons k gnil) = no_pairs
  to_pairs (gcons k (gnum n)) = no_pairs
  to_pairs (gcons k (gcons a b)) = pair (to_text k) (to_json a) (to_pairs b)

mutual
  pub to_json-from_json : (j : Json) → to_json (from_json j) ≡ j
  to_json-from_json null = refl
  to_json-from_json (bool true) = refl
  to_json-from_json (bool false) = refl
  to_json-from_json (int (pos n)) = refl
  to_json-from_json (int (negsuc n)) = refl
  to_json-from_json (text s) = ap text (to_text-from_text s)
  to_json-from_json (array js) = ap array (to_row-from_row js)
  to_json-from_json (object ms) = ap object (to_pairs-from_pairs ms)

  to_row-from_row : (js : Row) → to_row (from_row js) ≡ js
  to_row-from_row no_items = refl
  to_row-from_row (item j js) = λ i. item (to_json-from_json j i) (to_row-from_row js i)

  to_pairs-from_pairs : (ms : Pairs) → to_pairs (from_pairs ms) ≡ ms
  to_pairs-from_pairs no_pairs = refl
  to_pairs-from_pairs (pair k j ms) =
      λ i. pair (to_text-from_text k i) (to_json-from_json j i) (to_pairs-from_pairs ms i)

abbrev pub json_code : Coded Json
json_code = code_by Gv itself from_json to_json to_json-from_json

abbrev pub items_code : Coded (List Json)
items_code = coded_list json_code

abbrev pub members_code : Coded (List Member)
members_code = coded_list (coded× (coded_list coded_ℕ) json_code)
