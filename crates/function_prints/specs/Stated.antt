-- Which value a JSON text states (Microsoft Learn: ARM template functions, object: `json`).
use Rattle.std.specs.Prelude.{ℕ, nat_le, chars, encode_utf8_all, List, [], ◌∷◌, Option, Some, None, option_map}
use Rattle.std.specs.Prelude.{option_and_then, if◌then◌else◌}
use Rattle.serde_json.specs.Data as d
use Rattle.serde_json.specs.Find.{as_i64}
use Rattle.arm_value.specs.Json.{Json, null, bool, int, text, array, object, Row, no_items, item, Pairs, no_pairs, pair}
use Rattle.arm_value.specs.Fault.{Gives}
use Rattle.arm_value.specs.Reading.{reading}
use Rattle.function_texts.specs.Kinds.{text_of, of_one}

-- the tree that this data of `serde_json` is; none where a number is no whole one of 64 bits with a sign
abbrev mutual
  pub tree_of : d.Data → Option Json
  tree_of d.null = Some null
  tree_of (d.boolean b) = Some (bool b)
  tree_of (d.number n) = option_map int (as_i64 n)
  tree_of (d.string s) = Some (text (chars s))
  tree_of (d.array ds) = option_map array (row_of ds)
  tree_of (d.object ms) = option_map object (pairs_of ms)

  pub row_of : d.Items → Option Row
  row_of d.no_items = Some no_items
  row_of (d.item x ds) = option_and_then (λ j. option_map (item j) (row_of ds)) (tree_of x)

  pub pairs_of : d.Members → Option Pairs
  pairs_of d.no_members = Some no_pairs
  pairs_of (d.member k x ms) = option_and_then (λ j. option_map (pair (chars k) j) (pairs_of ms)) (tree_of x)

-- the tree of data that nests at most 120 deep
abbrev pub shallow_tree : d.Data → Option Json
shallow_tree x = if nat_le (d.depth x) 120 then tree_of x else None

-- the value that the bytes of a JSON text state
abbrev pub stated : List ℕ → Option Json
stated bytes = option_and_then shallow_tree (reading bytes)

-- the value that a text states
abbrev pub stated_by : Json → Option Json
stated_by j = option_and_then (λ s. stated (encode_utf8_all s)) (text_of j)

-- The value is a text, and what `serde_json` reads of the text's bytes is the data of the other value.
abbrev pub States : Json → Json → Type 0
States (text s) j = Gives (reading (encode_utf8_all s)) j
States _ j = ⊥

-- The one argument is a text that states the value.
abbrev pub AreStating : List Json → Json → Type 0
AreStating (j ∷ []) k = States j k
AreStating _ k = ⊥

-- `json`
abbrev pub read_json : List Json → Option Json
read_json args = of_one stated_by args
