-- When two trees are the same.
use Rattle.std.specs.Prelude.{◌&&◌, bytes_eq, Bool, true, false}
use Rattle.std.specs.Ordering.{int_eq}
use Rattle.arm_value.specs.Json.{Json, null, bool, int, text, array, object, Row, no_items, item, Pairs, no_pairs, pair}

abbrev same_bool : Bool → Bool → Bool
same_bool true true = true
same_bool true false = false
same_bool false true = false
same_bool false false = true

abbrev mutual
  pub is_same : Json → Json → Bool
  is_same null null = true
  is_same (bool a) (bool b) = same_bool a b
  is_same (int x) (int y) = int_eq x y
  is_same (text s) (text t) = bytes_eq s t
  is_same (array js) (array ks) = is_same_row js ks
  is_same (object ms) (object ns) = is_same_pairs ms ns
  is_same _ _ = false

  pub is_same_row : Row → Row → Bool
  is_same_row no_items no_items = true
  is_same_row (item j js) (item k ks) = is_same j k && is_same_row js ks
  is_same_row _ _ = false

  pub is_same_pairs : Pairs → Pairs → Bool
  is_same_pairs no_pairs no_pairs = true
  is_same_pairs (pair s j ms) (pair t k ns) = bytes_eq s t && (is_same j k && is_same_pairs ms ns)
  is_same_pairs _ _ = false
