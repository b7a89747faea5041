-- When what a template expression looks at answers what the cells of a Bicep program have.
use Rattle.std.specs.Prelude.{◌≡◌, ℕ, Bool, true, false, List, ◌∷◌, Option, Some, None, option_map, slice_get}
use Rattle.arm_value.specs.Json.{Json}
use Rattle.arm_value.specs.Look.{fold}
use Rattle.arm_ids.specs.Segments.{segments, has_slash}
use Rattle.arm_ids.specs.declared.id.Place.{Place}
use Rattle.arm_ids.specs.declared.id.ResourceId.{ResourceId}
use Rattle.expression_values.specs.Look.{Look, parameter, output, state, deployment, Fact, a_value, a_truth}
use Rattle.bicep_meaning.specs.Cells as cells
use Rattle.bicep_meaning.specs.Cells.{Cell, World, step}
use Rattle.bicep_meaning.specs.Listing.{Sought, found, left_away, not_here, sought}
use Rattle.bicep_meaning.specs.Files.{symbol_name}
use Rattle.bicep_meaning.specs.Around.{Here}
use Rattle.bicep_meaning.specs.Meaning.{has_key}
use Rattle.arm_ids.specs.Members.{deployment_type}

-- neither the subscription nor the group of a place has a slash
pub record IsPlainPlace (place : Place) : Type 0 where
  pub subscription : has_slash place.subscription ≡ false
  pub group : has_slash place.group ≡ false

-- the types of the keys of nested deployments
abbrev pub deployment_types : List (List ℕ)
deployment_types = segments (fold deployment_type)

-- what is looked at in the template, and in the program: what each has, and which cells are marked
pub record Sides : Type 0 where
  pub template : Look → Option Fact
  pub template_marks : Look → Bool
  pub source : World
  pub source_marks : Cell → Bool

module _ (x : Sides) where
  -- a cell of the template has what one of the program has, and is marked as that one
  abbrev pub IsAnswered : Look → Cell → Type 0
  IsAnswered l c = (x.template l ≡ option_map a_value (x.source c)) × (x.template_marks l ≡ x.source_marks c)

  -- the nested deployment at a key, and an output of it, as that of an instance of a module
  abbrev pub IsInstance : Here → ResourceId → List ℕ → Option ℕ → ℕ → Type 0
  IsInstance here k name None i = x.template (deployment k) ≡ None
  IsInstance here k name (Some n) i = (x.template (deployment k) ≡ Some (a_truth true))
      × IsAnswered (output k name) (cells.output (step n i ∷ here.at) name)

  -- by what is found under a key in the program
  abbrev pub IsFound : Here → ResourceId → List ℕ → Sought → Type 0
  IsFound here k name (found a i) = IsInstance here k name (slice_get here.file.modules a) i
  IsFound here k name left_away = x.template (deployment k) ≡ None
  IsFound here k name not_here = (x.template (deployment k) ≡ Some (a_truth false))
      × (x.template (state k) ≡ None) × (x.template_marks (state k) ≡ false)

  -- by the listing of the modules of the file
  abbrev pub IsListed : Here → ResourceId → List ℕ → Option Json → Type 0
  IsListed here k name None = x.template (deployment k) ≡ None
  IsListed here k name (Some j) = IsFound here k name (sought (has_key here.place k) j)

  -- the template answers what an expression of a file looks at
  pub record Answers (here : Here) : Type 0 where
    pub parameters : (n : ℕ) (name : List ℕ) → symbol_name here.file n ≡ Some name
        → IsAnswered (parameter (fold name)) (cells.parameter here.at (fold name))
    pub states : (k : ResourceId) → IsAnswered (state k) (cells.state k)
    -- no nested deployment has the key of a resource
    pub no_deployments : (k : ResourceId) → (k.types ≡ deployment_types → ⊥)
        → x.template (deployment k) ≡ Some (a_truth false)
    pub outputs : (k : ResourceId) (name : List ℕ) → k.types ≡ deployment_types
        → IsListed here k (fold name) (x.source (cells.deployments here.at))
    -- only states and outputs are marked, of what is looked at for states and outputs
    pub deployments_unmarked : (k : ResourceId) → x.template_marks (deployment k) ≡ false
    pub listing_unmarked : x.source_marks (cells.deployments here.at) ≡ false
