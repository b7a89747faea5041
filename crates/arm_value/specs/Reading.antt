-- Which tree bytes spell, by what `serde_json` reads of them.
use Rattle.std.specs.Prelude.{ℕ, suc, List, [], ◌++◌, Option, Some, None, is_some, option_map, if◌then◌else◌}
use Rattle.std.specs.Prelude.{encode_utf8_all, chars, decimal}
use Rattle.std.specs.Str.{is_utf8}
use Rattle.serde_json.specs.Data as d
use Rattle.serde_json.specs.Read.{read}
use Rattle.serde_json.specs.Find.{as_i64, of_integer}
use Rattle.arm_value.specs.Pointer.{step, token}
use Rattle.arm_value.specs.Json.{Json, null, bool, int, text, array, object, Row, no_items, item, Pairs, no_pairs, pair}

-- the data of `serde_json` for a tree: its texts in UTF-8
abbrev mutual
  pub data_of : Json → d.Data
  data_of null = d.null
  data_of (bool b) = d.boolean b
  data_of (int z) = d.number (of_integer z)
  data_of (text s) = d.string (encode_utf8_all s)
  data_of (array js) = d.array (row_data js)
  data_of (object ms) = d.object (pairs_data ms)

  pub row_data : Row → d.Items
  row_data no_items = d.no_items
  row_data (item j js) = d.item (data_of j) (row_data js)

  pub pairs_data : Pairs → d.Members
  pairs_data no_pairs = d.no_members
  pairs_data (pair k j ms) = d.member (encode_utf8_all k) (data_of j) (pairs_data ms)

-- what `serde_json` reads of these bytes, if it reads them
abbrev pub reading : List ℕ → Option d.Data
reading bytes = if is_utf8 bytes then read bytes else None

abbrev pub or_else : Option (List ℕ) → Option (List ℕ) → Option (List ℕ)
or_else None o = o
or_else (Some p) o = Some p

-- a step of a path, before the rest of it
abbrev pub below : List ℕ → List ℕ → List ℕ
below spelled rest = step spelled ++ rest

-- the path, as a JSON pointer, of the first number that is no i64
abbrev mutual
  pub not_whole : d.Data → Option (List ℕ)
  not_whole d.null = None
  not_whole (d.boolean b) = None
  not_whole (d.number n) = if is_some (as_i64 n) then None else Some []
  not_whole (d.string s) = None
  not_whole (d.array ds) = items_not_whole 0 ds
  not_whole (d.object ms) = members_not_whole ms

  pub items_not_whole : ℕ → d.Items → Option (List ℕ)
  items_not_whole i d.no_items = None
  items_not_whole i (d.item x ds) = or_else (option_map (below (decimal i)) (not_whole x)) (items_not_whole (suc i) ds)

  pub members_not_whole : d.Members → Option (List ℕ)
  members_not_whole d.no_members = None
  members_not_whole (d.member k x ms) =
      or_else (option_map (below (token (chars k))) (not_whole x)) (members_not_whole ms)
