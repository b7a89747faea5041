-- What is written for a tree.
use Rattle.std.proofs.Common.{◌≡◌, ◌≤◌, ℕ, Some, option_and_then, sym, append-nil, false, ◌||◌, ℤ, pos, negsuc, List}
use Rattle.std.proofs.Common.{[], ◌∷◌, ◌++◌, encode_utf8_all, refl, ap, ap₂, ◌∙◌, Less, Greater, nat_cmp}
use Rattle.std.proofs.lemmas.Cmp.{nat_list_cmp_total}
use Rattle.std.specs.Cmp.Lexicographic.{slice_cmp}
use Rattle.std.specs.Ordering.{ordering_reverse}
use Rattle.std.specs.List.{AllByRecursion}
use Rattle.std.specs.List.Sorted.{IsStrictlySortedBy}
use Rattle.json.specs.Lex.{tokens}
use Rattle.json.specs.Json as spelled
use Rattle.json.specs.Tree.{json_tokens, depth}
use Rattle.json.proofs.Printed.Trees.{value-json_tokens}
use Rattle.serde_json.specs.Data as d
use Rattle.serde_json.specs.Data.{Data}
use Rattle.serde_json.specs.Read.{read, of_json}
use Rattle.serde_json.specs.Find.{is_float, of_integer}
use Rattle.serde_json.specs.Written.{has_float, items_have_float, members_have_float}
use Rattle.arm_value.specs.Json.{Json, null, bool, int, text, array, object, Row, no_items, item, Pairs, no_pairs}
use Rattle.arm_value.specs.Json.{pair, Member, pairs, keys, IsInOrder, key_cmp}
use Rattle.arm_value.specs.Reading.{data_of, row_data, pairs_data}

pub no_float : (z : ℤ) → is_float (of_integer z) ≡ false
no_float (pos n) = refl
no_float (negsuc n) = refl

mutual
  pub has_float-data_of : (j : Json) → has_float (data_of j) ≡ false
  has_float-data_of null = refl
  has_float-data_of (bool b) = refl
  has_float-data_of (int z) = no_float z
  has_float-data_of (text s) = refl
  has_float-data_of (array js) = items_have_float-row_data js
  has_float-data_of (object ms) = members_have_float-pairs_data ms

  pub items_have_float-row_data : (js : Row) → items_have_float (row_data js) ≡ false
  items_have_float-row_data no_items = refl
  items_have_float-row_data (item j js) = ap₂ (λ a b. a || b) (has_float-data_of j) (items_have_float-row_data js)

  pub members_have_float-pairs_data : (ms : Pairs) → members_have_float (pairs_data ms) ≡ false
  members_have_float-pairs_data no_pairs = refl
  members_have_float-pairs_data (pair k j ms) =
      ap₂ (λ a b. a || b) (has_float-data_of j) (members_have_float-pairs_data ms)

last_key : (k : List ℕ) (ms : List Member) (m : Member)
    → AllByRecursion (λ y. key_cmp k y ≡ Less) (keys (ms ++ m ∷ [])) → key_cmp k m.0 ≡ Less
last_key k [] m h = h.0
last_key k (x ∷ ms) m h = last_key k ms m h.1

-- a key that is above those before it goes last
pub put_after : (ms : List Member) (m : Member) → IsInOrder (ms ++ m ∷ [])
    → d.put (encode_utf8_all m.0) (data_of m.1) (pairs_data (pairs ms)) ≡ pairs_data (pairs (ms ++ m ∷ []))
unfolding IsStrictlySortedBy
put_after [] m h = refl
put_after (x ∷ ms) m h =
    let above : slice_cmp nat_cmp (encode_utf8_all m.0) (encode_utf8_all x.0) ≡ Greater =
    nat_list_cmp_total.antisymm (encode_utf8_all m.0) (encode_utf8_all x.0)
    ∙ ap ordering_reverse (last_key x.0 ms m h.0) in
    rw above (ap (d.member (encode_utf8_all x.0) (data_of x.1)) (put_after ms m h.1))

-- what is written in these tokens is read back
pub read_of_tokens : (d : Data) (j : spelled.Json) (bytes : List ℕ) → tokens bytes ≡ json_tokens j
    → of_json j ≡ Some d → depth j ≤ 127 → read bytes ≡ Some d
read_of_tokens d j bytes same reads shallow =
    ap (λ o. option_and_then of_json (option_and_then (λ p. spelled.if_last p.0 p.1) o))
    (ap (spelled.value 127) (same ∙ sym (append-nil _)) ∙ value-json_tokens j 127 [] shallow) ∙ reads
