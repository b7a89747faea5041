-- Values that functions make: those that nest at most 120.
use Rattle.std.specs.Prelude.{nat_le, List, [], Option, Some, None, if◌then◌else◌}
use Rattle.arm_value.specs.Json.{Json, null, array, object, row, pairs, nesting, put_each, Member}

-- the value, where it nests at most 120
abbrev pub capped : Json → Option Json
capped j = if nat_le (nesting j) 120 then Some j else None

unfoldable pub array_of : List Json → Option Json
array_of js = capped (array (row js))

-- the object of these members, of which a later one wins over an earlier one of its name
unfoldable pub object_of : List Member → Option Json
object_of ms = capped (object (pairs (put_each [] ms)))

abbrev pub or_null : Option Json → Json
or_null None = null
or_null (Some j) = j
