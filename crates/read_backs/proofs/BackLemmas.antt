-- A value whose texts have characters alone is made of its data again.
use Rattle.std.proofs.Common.{◌≡◌, ℕ, ℤ, pos, negsuc, List, [], ◌∷◌, chars, Option, refl, sym, ap, ap₂}
use Rattle.std.proofs.Common.{◌∙◌}
use Rattle.std.proofs.lemmas.Option.{same_Some}
use Rattle.arm_value.specs.Fault.{Gives}
use Rattle.arm_value.specs.Json.{Json, null, bool, int, text, array, object, Row, no_items, item, Pairs, no_pairs, pair}
use Rattle.arm_value.specs.Reading.{data_of, row_data, pairs_data}
use Rattle.serde_json.specs.Data as d
use Rattle.serde_json.specs.Data.{Data}
use Rattle.serde_json.specs.Find.{of_integer}
use Rattle.read_backs.specs.Characters.{HasCharacters, RowHasCharacters, PairsHaveCharacters}

abbrev integer_of : d.Num → ℤ
integer_of (d.unsigned n) = pos n
integer_of (d.negative z) = z
integer_of (d.float x) = pos 0

abbrev mutual
  back : Data → Json
  back d.null = null
  back (d.boolean b) = bool b
  back (d.number n) = int (integer_of n)
  back (d.string s) = text (chars s)
  back (d.array ds) = array (items_back ds)
  back (d.object ms) = object (members_back ms)

  items_back : d.Items → Row
  items_back d.no_items = no_items
  items_back (d.item x ds) = item (back x) (items_back ds)

  members_back : d.Members → Pairs
  members_back d.no_members = no_pairs
  members_back (d.member k x ms) = pair (chars k) (back x) (members_back ms)

integer_back : (z : ℤ) → integer_of (of_integer z) ≡ z
integer_back (pos n) = refl
integer_back (negsuc n) = refl

mutual
  is_back : (j : Json) → HasCharacters j → back (data_of j) ≡ j
  is_back null h = refl
  is_back (bool b) h = refl
  is_back (int z) h = ap int (integer_back z)
  is_back (text s) h = ap text h
  is_back (array js) h = ap array (row_back js h)
  is_back (object ms) h = ap object (pairs_back ms h)

  row_back : (js : Row) → RowHasCharacters js → items_back (row_data js) ≡ js
  row_back no_items h = refl
  row_back (item j js) h = ap₂ item (is_back j h.0) (row_back js h.1)

  pairs_back : (ms : Pairs) → PairsHaveCharacters ms → members_back (pairs_data ms) ≡ ms
  pairs_back no_pairs h = refl
  pairs_back (pair k j ms) h =
      ap (λ (x : List ℕ). pair x (back (data_of j)) (members_back (pairs_data ms))) h.0
      ∙ ap₂ (pair k) (is_back j h.1) (pairs_back ms h.2)

pub once : (read : Option Data) (j k : Json) → HasCharacters j → HasCharacters k → Gives read j → Gives read k → j ≡ k
once read j k h i g l =
    sym (is_back j h) ∙ ap back (same_Some (data_of j) (data_of k) (sym g.0 ∙ l.0)) ∙ is_back k i
