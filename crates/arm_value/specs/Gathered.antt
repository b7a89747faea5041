-- Arrays and objects that are gathered from their ends, where each part is there.
use Rattle.std.specs.Prelude.{Option, Some, None, ℕ, List}
use Rattle.arm_value.specs.Json.{Json, Row, item, Pairs, pair}

abbrev pub item_before : Option Json → Option Row → Option Row
item_before (Some j) (Some js) = Some (item j js)
item_before _ _ = None

abbrev pub pair_before : List ℕ → Option Json → Option Pairs → Option Pairs
pair_before k (Some j) (Some ms) = Some (pair k j ms)
pair_before k _ _ = None
