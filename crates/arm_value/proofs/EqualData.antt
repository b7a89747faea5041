-- Trees of the same data are the same tree.
use Rattle.std.proofs.Common.{◌≡◌, refl, ap, ap₂, sym, ◌∙◌}
use Rattle.std.proofs.lemmas.Str.{encodes_same}
use Rattle.serde_json.specs.Find.{of_integer}
use Rattle.arm_value.specs.Json.{Json, null, bool, int, text, array, object, Row, no_items, item, Pairs, no_pairs}
use Rattle.arm_value.specs.Json.{pair}
use Rattle.arm_value.specs.Reading.{data_of, row_data, pairs_data}
use Rattle.arm_value.proofs.TreeLemmas.{integer_in, integer_back}

mutual
  pub same_data : (j k : Json) → data_of j ≡ data_of k → j ≡ k
  same_data null null e = refl
  same_data (bool a) (bool b) e = let same : a ≡ b = cc in ap bool same
  same_data (int x) (int y) e = let same : of_integer x ≡ of_integer y = cc in
      ap int (sym (integer_back x) ∙ ap integer_in same ∙ integer_back y)
  same_data (text s) (text t) e = ap text (encodes_same s t (cc))
  same_data (array js) (array ks) e = ap array (same_row js ks (cc))
  same_data (object ms) (object ns) e = ap object (same_pairs ms ns (cc))
  same_data _ _ e = absurd (cc)

  same_row : (js ks : Row) → row_data js ≡ row_data ks → js ≡ ks
  same_row no_items no_items e = refl
  same_row (item j js) (item k ks) e = ap₂ item (same_data j k (cc)) (same_row js ks (cc))
  same_row _ _ e = absurd (cc)

  same_pairs : (ms ns : Pairs) → pairs_data ms ≡ pairs_data ns → ms ≡ ns
  same_pairs no_pairs no_pairs e = refl
  same_pairs (pair s j ms) (pair t k ns) e =
      λ i. pair (encodes_same s t (cc) i) (same_data j k (cc) i) (same_pairs ms ns (cc) i)
  same_pairs _ _ e = absurd (cc)
