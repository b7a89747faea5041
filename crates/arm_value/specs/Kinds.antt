-- Of which kind a value is, and how many items it has.
use Rattle.std.specs.Prelude.{ℕ, suc, Bool, true, false, Option, Some}
use Rattle.arm_value.specs.Json.{Row, no_items, item, Json, array, object, bool}

abbrev pub row_length : Row → ℕ
row_length no_items = 0
row_length (item j js) = suc (row_length js)

abbrev pub is_array : Json → Bool
is_array (array js) = true
is_array _ = false

abbrev pub is_object : Json → Bool
is_object (object ms) = true
is_object _ = false

abbrev pub is_true : Option Json → Bool
is_true (Some (bool b)) = b
is_true _ = false
