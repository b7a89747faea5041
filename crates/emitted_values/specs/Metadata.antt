-- Metadata by numbers.
use Rattle.std.specs.Prelude.{ℕ, List, Option, None, slice_index_or}
use Rattle.arm_value.specs.declared.value.Value.{Value}

-- the metadata of a number, where the list has some for it
abbrev pub metadata_at : List (Option Value) → ℕ → Option Value
metadata_at ms n = slice_index_or ms n None
