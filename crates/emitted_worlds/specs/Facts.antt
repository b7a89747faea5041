-- What holds of each world that is a desired state of a program or, with its cells renamed, of its template.
use Rattle.std.specs.Prelude.{◌≡◌, ℕ, nat_le, true, false, length, List, ◌∷◌, Option, Some, None, option_and_then, map}
use Rattle.arm_value.specs.Json.{Json, text}
use Rattle.arm_value.specs.Look.{fold}
use Rattle.arm_ids.specs.Segments.{segments}
use Rattle.arm_ids.specs.declared.id.ResourceId.{ResourceId}
use Rattle.template_parts.specs.declared.mode.Form.{Form}
use Rattle.deploy_cells.specs.Cells.{Step, Position, Cell, World, parameter, variable, output, count, name, deployments}
use Rattle.deploy_cells.specs.Cells.{state, copies, is_admitted}
use Rattle.deploy_cells.specs.Listing.{Named, listing_json}
use Rattle.deploy_cells.specs.Puts.{Kind}
use Rattle.bicep_meaning.specs.Files.{SourceFile}
use Rattle.bicep_meaning.specs.Instances.{SourceProgram, file_at, parameter_named, variable_named, output_folded, kinds}
use Rattle.bicep_emission.specs.Answered.{deployment_types}
use Rattle.cell_renaming.specs.Renaming.{to_position}
use Rattle.source_worlds.specs.Numbers.{numbering}

-- no resource that is put has the type of nested deployments
abbrev pub HasOwnTypes : SourceProgram → Type 0
HasOwnTypes d = (p : Position) (n : ℕ) (k : Kind) → kinds d p n ≡ Some k → k.is_deployment ≡ false
    → map fold (segments k.type) ≡ deployment_types → ⊥

-- no state is held at the key of a nested deployment
abbrev pub HoldsResources : (ResourceId → Option Json) → Type 0
HoldsResources held = (k : ResourceId) → k.types ≡ deployment_types → held k ≡ None

-- the value lists the nested deployments of a scope: those of each module of its file
pub record IsListing (f : SourceFile) (o : Option Json) : Type 0 where
  pub listed : List (List Named)
  pub is : o ≡ Some (listing_json listed)
  pub each : length listed ≡ length f.modules

-- the value is a text
pub record HasName (o : Option Json) : Type 0 where
  pub title : List ℕ
  pub is : o ≡ Some (text title)

pub record HasFacts (z : Form) (d : SourceProgram) (w : World) : Type 0 where
  -- a cell that its parent does not admit is not there
  pub closed : (c : Cell) → is_admitted w c ≡ false → w c ≡ None
  -- nor is one that the file of its scope does not declare
  pub parameters : (p : Position) (x : List ℕ) → option_and_then (parameter_named x) (file_at d.files p) ≡ None
      → w (parameter p x) ≡ None
  pub variables : (p : Position) (x : List ℕ) → option_and_then (variable_named x) (file_at d.files p) ≡ None
      → w (variable p x) ≡ None
  pub outputs : (p : Position) (x : List ℕ)
      → option_and_then (λ f. output_folded f x) (file_at d.files p) ≡ None → w (output p x) ≡ None
  -- a scope that is there lists its nested deployments
  pub listing : (p q : Position) (f : SourceFile) → to_position (numbering z d.files) p ≡ Some q
      → file_at d.files p ≡ Some f → is_admitted w (deployments p) ≡ true → IsListing f (w (deployments p))
  -- a resource has at most 800 instances
  pub counts : (p : Position) (n : ℕ) → nat_le (copies (w (count p n))) 800 ≡ true
  -- a nested deployment that is there has a name
  pub names : (p q : Position) (s : Step) → to_position (numbering z d.files) (s ∷ p) ≡ Some q
      → is_admitted w (deployments (s ∷ p)) ≡ true → HasName (w (name p s))
  -- and no state
  pub states : (k : ResourceId) → k.types ≡ deployment_types → w (state k) ≡ None
