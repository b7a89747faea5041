use Rattle.std.proofs.Common.{◌≡◌, ◌++◌, drop, map, List}
use Rattle.std.specs.List.{filter}
use Rattle.arm_value.specs.Json.{Json}
use Rattle.arm_value.specs.View.{json}
use Rattle.function_lists.specs.Index.{IsIndexOf}
use Rattle.function_lists.specs.Items.{is_among}
use Rattle.function_lists.proofs.items.indexed.Given as goal

-- the values kept so far with those kept of what is left
abbrev pub invariant-loop-value : goal.invariant-loop-value
invariant-loop-value l = (js : List Json) → IsIndexOf l.texts js
    → map json l.all.items ++ filter (is_among js) (map json (drop l.value-index l.values)) ≡ filter (is_among js)
    (map json l.values)
