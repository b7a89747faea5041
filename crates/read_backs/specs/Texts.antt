-- JSON texts, and what is read back of them.
use Rattle.std.specs.Prelude.{ℕ, List}
use Rattle.arm_value.specs.Fault.{Gives}
use Rattle.arm_value.specs.Json.{Json, IsValue}
use Rattle.arm_value.specs.Reading.{reading}
use Rattle.read_backs.specs.Characters.{HasCharacters}

-- the bytes are a JSON text of a value with whole numbers that nests at most 120
abbrev pub IsJsonText : List ℕ → Type 0
IsJsonText bytes = (v : Json) × Gives (reading bytes) v

-- what was read back of the bytes
pub record IsReadBack (bytes : List ℕ) (v : Json) : Type 0 where
  pub gives : Gives (reading bytes) v
  pub characters : HasCharacters v
  pub rules : IsValue v
