-- Parts of values (Microsoft Learn, "Syntax and expressions in ARM templates", property accessors).
use Rattle.std.specs.Prelude.{ℤ, pos, negsuc, nat_le, List, Option, Some, None, slice_get}
use Rattle.std.specs.Prelude.{if◌then◌else◌}
use Rattle.foundation.specs.declared.limits.TheConstants.{MAX_VALUE_NESTING}
use Rattle.arm_value.specs.Json.{Json, int, text, array, object, items, nesting}
use Rattle.arm_value.specs.Look.{look_in}

-- the item at a place, counted from 0
abbrev pub item_at : ℤ → List Json → Option Json
item_at (pos n) js = slice_get js n
item_at (negsuc n) js = None

-- the member of an object by a name, or the item of an array at a place
abbrev pub part_of : Json → Json → Option Json
part_of (object ms) (text name) = look_in name ms
part_of (array js) (int place) = item_at place (items js)
part_of _ _ = None

-- the value, where it nests at most 100 deep
abbrev pub kept : Json → Option Json
kept j = if nat_le (nesting j) MAX_VALUE_NESTING then Some j else None
