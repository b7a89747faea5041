-- Two nested deployments of one scope that have one key, by tags of the scopes that they opened.
use Rattle.std.specs.Prelude.{◌≡◌, ℕ, List, [], ◌∷◌, Option, Some, None}
use Rattle.arm_ids.specs.declared.id.ResourceId.{ResourceId}
use Rattle.deploy_cells.specs.Cells.{Step, Position}
use Rattle.key_tags.specs.KeyCodes.{key_code}
use Rattle.tag_needs.specs.Tags.{Tag}
use Rattle.plan_cells.specs.Known as known
use Rattle.plan_cells.specs.Meaning.{Deployment}
use Rattle.plan_cells.specs.Reads.{key_in}
use Rattle.plan_cells.specs.Start.{start_world}
use Rattle.plan_table.specs.declared.table.Table.{Table}
use Rattle.plan_table.specs.Opened.{Opened}
use Rattle.plan_table.specs.Whole.{whole_of}
use Rattle.plan_table.specs.Found.{scope_at}
use Rattle.plan_refusals.specs.Start.{start_of}
use Rattle.plan_refusals.specs.Keys.{ShareNestedKey}

-- the number of the scope around, and the key
abbrev pub keyed_tags : ℕ → Option ResourceId → List Tag
keyed_tags f None = []
keyed_tags f (Some k) = (f ∷ key_code k) ∷ []

abbrev pub position_tags : Deployment → known.Table → ℕ → Position → List Tag
position_tags d q f [] = []
position_tags d q f (s ∷ p) = keyed_tags f (key_in d (start_world q) p s)

-- the tags of a scope
abbrev pub scope_tags : Deployment → known.Table → Opened → List Tag
scope_tags d q o = position_tags d q o.around o.position

-- the scopes of these numbers are those of two nested deployments of one scope that have one key
pub record AreSameNested (t : Table) (g h : ℕ) : Type 0 where
  pub around : Position
  pub first : Step
  pub second : Step
  pub is_first : (scope_at t g).position ≡ first ∷ around
  pub is_second : (scope_at t h).position ≡ second ∷ around
  pub share : ShareNestedKey (whole_of t) (start_world (start_of t)) around first second
