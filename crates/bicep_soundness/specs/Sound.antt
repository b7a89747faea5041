-- Soundness: values are of their types, and no operation meets a value of a wrong kind.
use Rattle.std.specs.Prelude.{◌≡◌, ℕ, List, Some}
use Rattle.arm_value.specs.Json.{Json}
use Rattle.reading.specs.World.{value_in}
use Rattle.deploy_cells.specs.Cells.{World}
use Rattle.bicep_resolved.specs.Source.{SourceTree, ValueTree}
use Rattle.bicep_signatures.specs.declared.value_type.ValueType.{ValueType}
use Rattle.bicep_typing.specs.Names.{Types}
use Rattle.bicep_meaning.specs.Around.{Here, Frame}
use Rattle.bicep_meaning.specs.Declared.{around}
use Rattle.bicep_meaning.specs.Meaning.{value, value_of}
use Rattle.bicep_soundness.specs.Values.{IsOfType}
use Rattle.bicep_soundness.specs.Suited.{IsSuited, ValueSuited}
use Rattle.bicep_soundness.specs.Entries.{AreTyped, AreDeclared}

-- the file is one whose variables are of the types of their values, and its entries are of their types in a world
pub record IsTypedIn (ts : Types) (here : Here) (w : World) : Type 0 where
  pub declared : AreDeclared ts here.file.declared.declarations
  pub entries : AreTyped ts here w

-- an expression that has a type, through however many declarations: each of its values is of the type, and no operation
-- in it meets a value of a wrong kind, unless the type of its operand is Any
pub record IsSound (ts : Types) (here : Here) (w : World) (k : ℕ) (e : SourceTree) (fs : List Frame) (t : ValueType)
    : Type 0 where
  pub typed : (v : Json) → value_in w (value here (around here k) e fs) ≡ Some v → IsOfType t v
  pub suited : IsSuited ts here (around here k) w e fs

-- the same of the value of a variable, an output or a property
pub record IsValueSound (ts : Types) (here : Here) (w : World) (k : ℕ) (x : ValueTree) (fs : List Frame)
    (t : ValueType) : Type 0 where
  pub typed : (v : Json) → value_in w (value_of here (around here k) x fs) ≡ Some v → IsOfType t v
  pub suited : ValueSuited ts here (around here k) w x fs
