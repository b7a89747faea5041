-- A body asks one thing.
use Rattle.std.proofs.Common.{◌≡◌, ℕ, ℤ, pos, negsuc, List, Option, Some, None, refl, sym, ap, ◌∙◌, inl, inr}
use Rattle.std.proofs.Common.{encode_utf8_all}
use Rattle.std.proofs.lemmas.Str.{encodes_same}
use Rattle.serde_json.specs.Data.{Data}
use Rattle.serde_json.specs.Find.{of_integer}
use Rattle.arm_value.specs.Fault.{Gives}
use Rattle.arm_value.specs.Json.{Json, null, bool, int, text, array, object, Row, no_items, item, Pairs, no_pairs, pair}
use Rattle.arm_value.specs.Reading.{data_of, row_data, pairs_data, reading}
use Rattle.http_requests.specs.Asks.{Asked}
use Rattle.http_requests.specs.Calls.{Called, ready, puts_group, deploys, puts_lock}
use Rattle.http_requests.specs.Bodies.{IsAsk, IsBadBody, asked_with}

integer_same : (y z : ℤ) → of_integer y ≡ of_integer z → y ≡ z
integer_same (pos m) (pos n) e = cc
integer_same (pos m) (negsuc n) e = cc
integer_same (negsuc m) (pos n) e = cc
integer_same (negsuc m) (negsuc n) e = cc

-- trees of one reading are one
mutual
  data_same : (j k : Json) → data_of j ≡ data_of k → j ≡ k
  data_same null null e = refl
  data_same null _ e = cc
  data_same (bool b) (bool c) e = cc
  data_same (bool b) _ e = cc
  data_same (int y) (int z) e =
      let f : of_integer y ≡ of_integer z = cc in
      ap int (integer_same y z f)
  data_same (int y) _ e = cc
  data_same (text s) (text t) e =
      let f : encode_utf8_all s ≡ encode_utf8_all t = cc in
      ap text (encodes_same s t f)
  data_same (text s) _ e = cc
  data_same (array js) (array ks) e =
      let f : row_data js ≡ row_data ks = cc in
      ap array (row_same js ks f)
  data_same (array js) _ e = cc
  data_same (object ms) (object ns) e =
      let f : pairs_data ms ≡ pairs_data ns = cc in
      ap object (pairs_same ms ns f)
  data_same (object ms) _ e = cc

  row_same : (js ks : Row) → row_data js ≡ row_data ks → js ≡ ks
  row_same no_items no_items e = refl
  row_same no_items (item k ks) e = cc
  row_same (item j js) no_items e = cc
  row_same (item j js) (item k ks) e =
      let f : data_of j ≡ data_of k = cc in
      let g : row_data js ≡ row_data ks = cc in
      let one : j ≡ k = data_same j k f in
      let rest : js ≡ ks = row_same js ks g in
      cc

  pairs_same : (ms ns : Pairs) → pairs_data ms ≡ pairs_data ns → ms ≡ ns
  pairs_same no_pairs no_pairs e = refl
  pairs_same no_pairs (pair l k ns) e = cc
  pairs_same (pair k j ms) no_pairs e = cc
  pairs_same (pair k j ms) (pair l i ns) e =
      let f : encode_utf8_all k ≡ encode_utf8_all l = cc in
      let g : data_of j ≡ data_of i = cc in
      let h : pairs_data ms ≡ pairs_data ns = cc in
      let name : k ≡ l = encodes_same k l f in
      let one : j ≡ i = data_same j i g in
      let rest : ms ≡ ns = pairs_same ms ns h in
      cc

value_same : (read : Option Data) (j k : Json) → Gives read j → Gives read k → j ≡ k
value_same read j k g h =
    let e : Some (data_of j) ≡ Some (data_of k) = sym g.0 ∙ h.0 in
    let f : data_of j ≡ data_of k = cc in
    data_same j k f

asked_same : (call : Called) (body : List ℕ) (j k : Json) → Gives (reading body) j → Gives (reading body) k
    → asked_with call j ≡ asked_with call k
asked_same call body j k g h = ap (asked_with call) (value_same (reading body) j k g h)

one_of : (call : Called) (body : List ℕ) (what other : Asked) (j k : Json) → Gives (reading body) j
    → Gives (reading body) k → asked_with call j ≡ Some what → asked_with call k ≡ Some other → what ≡ other
one_of call body what other j k g h e f =
    let both : Some what ≡ Some other = sym e ∙ asked_same call body j k g h ∙ f in
    cc

-- a body asks one thing
pub ask_one : (call : Called) (body : List ℕ) (what other : Asked) → IsAsk call body what → IsAsk call body other
    → what ≡ other
ask_one (ready a) body what other e f = e ∙ sym f
ask_one (puts_group at) body what other (j, g, e) (k, h, f) = one_of (puts_group at) body what other j k g h e f
ask_one (deploys at) body what other (j, g, e) (k, h, f) = one_of (deploys at) body what other j k g h e f
ask_one (puts_lock at) body what other (j, g, e) (k, h, f) = one_of (puts_lock at) body what other j k g h e f

none_of : (call : Called) (body : List ℕ) (what : Asked) (j k : Json) → Gives (reading body) j
    → Gives (reading body) k → asked_with call j ≡ Some what → asked_with call k ≡ None → ⊥
none_of call body what j k g h e f =
    let both : Some what ≡ None = sym e ∙ asked_same call body j k g h ∙ f in
    cc

-- a body that asks something has its form
pub ask_not_bad : (call : Called) (body : List ℕ) (what : Asked) → IsAsk call body what → IsBadBody call body → ⊥
ask_not_bad (ready a) body what e bad = bad
ask_not_bad (puts_group at) body what (j, g, e) (inl none) = none j g
ask_not_bad (puts_group at) body what (j, g, e) (inr (k, h, f)) = none_of (puts_group at) body what j k g h e f
ask_not_bad (deploys at) body what (j, g, e) (inl none) = none j g
ask_not_bad (deploys at) body what (j, g, e) (inr (k, h, f)) = none_of (deploys at) body what j k g h e f
ask_not_bad (puts_lock at) body what (j, g, e) (inl none) = none j g
ask_not_bad (puts_lock at) body what (j, g, e) (inr (k, h, f)) = none_of (puts_lock at) body what j k g h e f
