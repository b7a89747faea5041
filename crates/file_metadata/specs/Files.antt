-- The metadata that the decorators of a file give to the parts of its template.
use Rattle.std.specs.Prelude.{◌≡◌, ℕ, List, Option, None, option_map, slice_get, slice_index_or}
use Rattle.arm_value.specs.Json.{Json}
use Rattle.arm_value.specs.View.{json}
use Rattle.arm_value.specs.declared.value.Value.{Value}
use Rattle.bicep_tree.specs.Tree.{DecoratorTrees, FileTree}
use Rattle.symbol_decorators.specs.Decorators.{decorators_of}
use Rattle.parameter_rules.specs.Metadata.{metadata_of}
use Rattle.parameter_rules.specs.Rules.{or_no}
use Rattle.file_metadata.specs.Outputs.{output_decorators}
use Rattle.file_metadata.specs.declared.files.FileMetadata.{FileMetadata}

-- the metadata that the decorators of a number give; where there are none, there is none
abbrev pub metadata_in : List DecoratorTrees → ℕ → Option Json
metadata_in xs n = metadata_of (or_no (slice_get xs n))

-- the metadata of the symbol of a number
abbrev pub symbol_metadata : FileTree → ℕ → Option Json
symbol_metadata t n = metadata_in (decorators_of t) n

-- the metadata of the output of a number
abbrev pub output_metadata : FileTree → ℕ → Option Json
output_metadata t n = metadata_in (output_decorators t) n

-- a list of metadata by numbers
abbrev pub AreOf : (ℕ → Option Json) → List (Option Value) → Type 0
AreOf of vs = (n : ℕ) → option_map json (slice_index_or vs n None) ≡ of n

pub record IsMetadataOf (t : FileTree) (x : FileMetadata) : Type 0 where
  pub symbols : AreOf (symbol_metadata t) x.symbols.items
  pub outputs : AreOf (output_metadata t) x.outputs.items
