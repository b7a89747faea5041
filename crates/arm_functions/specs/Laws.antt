-- What holds of the functions beyond each one's own definition.
use Rattle.std.specs.Prelude.{[], ◌∷◌, Option, Some, None}
use Rattle.arm_value.specs.Json.{Json, object}
use Rattle.function_prints.specs.Members.{union}

-- the union of two objects; else the second value
abbrev pub united_values : Json → Json → Option Json
united_values (object ms) (object ns) = union (object ms ∷ object ns ∷ [])
united_values _ j = Some j

-- of what two objects have at one key: the second's value where it has one, united with the first's where both are
-- objects
abbrev pub later_value : Option Json → Option Json → Option Json
later_value o None = o
later_value None (Some j) = Some j
later_value (Some i) (Some j) = united_values i j
