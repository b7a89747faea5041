-- What is supposed of the entries of an instance of a file.
use Rattle.std.specs.Prelude.{◌≡◌, ◌⊎◌, ℕ, true, List, [], ◌∷◌, Some, Ok, Err, slice_get}
use Rattle.arm_value.specs.Json.{Json}
use Rattle.arm_value.specs.Look.{fold}
use Rattle.reading.specs.World.{value_in}
use Rattle.deploy_cells.specs.Cells.{World, variable}
use Rattle.bicep_resolved.specs.declared.leaf.Target.{Target}
use Rattle.bicep_resolved.specs.Source.{ValueTree}
use Rattle.bicep_resolved.specs.Target.{number_of}
use Rattle.bicep_declared.specs.Declarations.{DeclaredTree}
use Rattle.bicep_declared.specs.Declarations as d
use Rattle.bicep_signatures.specs.declared.value_type.ValueType.{ValueType}
use Rattle.bicep_signatures.specs.declared.value_type.ValueType.TheVariants as type
use Rattle.bicep_typing.specs.Typed.{Typed}
use Rattle.bicep_typing.specs.Names.{Types, known, output_type}
use Rattle.bicep_typing.specs.Typing.{value_type}
use Rattle.bicep_meaning.specs.Files.{symbol_name}
use Rattle.bicep_meaning.specs.Around.{Here, Frame}
use Rattle.bicep_meaning.specs.Declared.{around}
use Rattle.bicep_meaning.specs.Meaning.{parameter_entry, output_name, output_value}
use Rattle.bicep_soundness.specs.Values.{IsOfType}

-- the type of the symbol of that number
abbrev pub type_at : Types → ℕ → ValueType
type_at ts n = known (slice_get ts.symbols n)

-- the value is of the type, where there is one
abbrev pub IsOutputOf : Typed → Json → Type 0
IsOutputOf (Ok t) v = IsOfType t v
IsOutputOf (Err at) v = Unit {0}

-- The entries of parameters, of variables and of outputs of modules are of their types, and the name of each resource
-- and module is a text, in whichever runs of loops, also in those that there are not.
pub record AreTyped (ts : Types) (here : Here) (w : World) : Type 0 where
  pub parameters : (n : ℕ) (v : Json) → value_in w (parameter_entry here n) ≡ Some v → IsOfType (type_at ts n) v
  pub variables : (n : ℕ) (x : List ℕ) (v : Json) → here.file.has_entry n ≡ true → symbol_name here.file n ≡ Some x
      → w (variable here.at (fold x)) ≡ Some v → IsOfType (type_at ts n) v
  pub outputs : (k : ℕ) (x : Target) (at number : ℕ) (fs : List Frame) (v : Json)
      → value_in w (output_value here (output_name here x number) ((around here k).name (number_of x) fs)) ≡ Some v
      → IsOutputOf (output_type ts.outputs x at number) v
  pub names : (k n : ℕ) (fs : List Frame) (v : Json) → value_in w ((around here k).name n fs) ≡ Some v
      → IsOfType type.Text v

-- the indices of loops are whole numbers
abbrev pub AreCounting : World → List Frame → Type 0
AreCounting w [] = Unit {0}
AreCounting w (f ∷ fs) = ((v : Json) → value_in w f.index ≡ Some v → IsOfType type.Int v) × AreCounting w fs

-- each variable is of the type of its value, or of the type Any
abbrev pub AreDeclared : Types → List DeclaredTree → Type 0
AreDeclared ts ds =
    (n at : ℕ) (x : ValueTree) → slice_get ds n ≡ Some (d.variable at x)
    → (type_at ts n ≡ type.Any) ⊎ (value_type ts x ≡ Ok (type_at ts n))
