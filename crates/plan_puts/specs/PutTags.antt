-- The instances that are put, by tags of the rows of a sheet, and two of them that have one key.
use Rattle.std.specs.Prelude.{List, [], ◌∷◌, Option, Some, None, if◌then◌else◌}
use Rattle.arm_ids.specs.declared.id.ResourceId.{ResourceId}
use Rattle.deploy_cells.specs.Cells.{step, Cell, included}
use Rattle.deploy_cells.specs.Puts.{Kind}
use Rattle.key_tags.specs.KeyCodes.{key_code}
use Rattle.tag_needs.specs.Tags.{Tag}
use Rattle.plan_cells.specs.Known as known
use Rattle.plan_cells.specs.Meaning.{Deployment}
use Rattle.plan_cells.specs.Desired.{kinds}
use Rattle.plan_cells.specs.Reads.{key_in}
use Rattle.plan_cells.specs.Start.{start_world}
use Rattle.plan_filling.specs.Rows.{Row}
use Rattle.plan_table.specs.declared.table.Table.{Table}
use Rattle.plan_table.specs.Whole.{whole_of}
use Rattle.plan_table.specs.Found.{scope_at}
use Rattle.plan_tasks.specs.InOrder.{is_in}
use Rattle.plan_tasks.specs.Start.{start_of, IsInstance}
use Rattle.plan_refusals.specs.Keys.{ShareKey}
use Rattle.plan_openers.specs.declared.opener.Opener.{Opener}

-- the tag of a key
abbrev pub key_tags : Option ResourceId → List Tag
key_tags None = []
key_tags (Some k) = key_code k ∷ []

-- of what is put
abbrev pub unless_nested : Option Kind → List Tag → List Tag
unless_nested None ts = []
unless_nested (Some k) ts = if k.is_deployment then [] else ts

-- the tags of a cell: the condition of an instance that is included and put has that of its key
abbrev pub cell_tags : Deployment → known.Table → Cell → List Tag
cell_tags d q (included p s) =
    if is_in q p s then unless_nested (kinds d p s.resource) (key_tags (key_in d (start_world q) p s)) else []
cell_tags d q _ = []

abbrev pub row_tags : Deployment → known.Table → Row → List Tag
row_tags d q r = cell_tags d q r.cell

-- these instances are there, are put, and have one key
pub record AreSamePut (t : Table) (x y : Opener) : Type 0 where
  pub is_first : IsInstance t x.frame x.resource x.copy
  pub is_second : IsInstance t y.frame y.resource y.copy
  pub share : ShareKey (whole_of t) (start_world (start_of t)) (scope_at t x.frame).position (step x.resource x.copy)
      (scope_at t y.frame).position (step y.resource y.copy)
