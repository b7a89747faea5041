-- The tree of a value of the code.
use Rattle.std.specs.Prelude.{List, [], Option, Some, None, chars, string_bytes}
use Rattle.std.specs.declared.vec.Vec.{Vec}
use Rattle.std.specs.declared.alloc.Global.{Global}
use Rattle.std.specs.declared.string.String.{String}
use Rattle.arm_value.specs.Json.{Json, null, bool, int, text, array, object, row, pairs, Member}
use Rattle.arm_value.specs.declared.value.Value.{Value}
use Rattle.arm_value.specs.declared.value.Value.TheVariants.{Null, Bool, Int, Text, Array, Object}
use Rattle.arm_value.specs.declared.value.Field.{Field}

abbrev pub json : Value → Json
json Null = null
json (Bool b) = bool b
json (Int z) = int z
json (Text s) = text s
json (Array js) = array (row js)
json (Object ms) = object (pairs ms)

abbrev pub member : Field → Member
member f = (f.name, json f.value)

-- the member of a map's entry
abbrev pub entry : String Global × Value → Member
entry e = (chars (string_bytes e.0), json e.1)

-- the elements of a vector that may not be there yet
abbrev pub held : {T : Type 0} → Option (Vec T Global) → List T
held None = []
held (Some v) = v.items
