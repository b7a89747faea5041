-- The names and the keys of all instances, by the lines of their names.
use Rattle.std.specs.Prelude.{◌≡◌, List, [], map, Option, Some, None}
use Rattle.arm_ids.specs.declared.id.ResourceId.{ResourceId}
use Rattle.deploy_cells.specs.Cells.{step}
use Rattle.key_tags.specs.KeyCodes.{key_code}
use Rattle.tag_needs.specs.Tags.{Tag}
use Rattle.tag_holders.specs.Holders.{Holders, AreKept}
use Rattle.plan_cells.specs.Reads.{key_in}
use Rattle.plan_cells.specs.Start.{start_world}
use Rattle.plan_codes.specs.TaskCodes.{instance_names}
use Rattle.plan_table.specs.declared.line.Spot.{Spot}
use Rattle.plan_table.specs.declared.line.Spot.TheVariants.{Name}
use Rattle.plan_table.specs.declared.table.Table.{Table}
use Rattle.plan_table.specs.Whole.{whole_of, scopes_of}
use Rattle.plan_table.specs.Found.{scope_at}
use Rattle.plan_tasks.specs.Start.{start_of}
use Rattle.argument_faults.specs.Numbers.{number_in}
use Rattle.dependency_titles.specs.declared.titles.ScopeTitles.{ScopeTitles}
use Rattle.dependency_titles.specs.Titles.{scope_titles}

-- the names of the instance of a line; a line that is no name has none
abbrev pub spot_names : Table → Spot → List Tag
spot_names t (Name f r i) =
    instance_names (whole_of t) (number_in (scopes_of t)) (start_of t) (Some ((scope_at t f).position, step r i))
spot_names t _ = []

abbrev pub key_class : Option ResourceId → Tag
key_class None = []
key_class (Some k) = key_code k

-- the key of the instance of a line
abbrev pub spot_class : Table → Spot → Tag
spot_class t (Name f r i) =
    key_class (key_in (whole_of t) (start_world (start_of t)) (scope_at t f).position (step r i))
spot_class t _ = []

abbrev pub names_in : Table → List (List Tag)
names_in t = map (λ l. spot_names t l.spot) t.lines.items

abbrev pub classes_of : Table → List Tag
classes_of t = map (λ l. spot_class t l.spot) t.lines.items

-- who has which name is kept, with the keys, and the titles of each scope
pub record AreNames (t : Table) (holders : Holders) (classes : List Tag) (titles : List ScopeTitles) : Type 0 where
  pub kept : AreKept holders (names_in t) classes
  pub are_classes : classes ≡ classes_of t
  pub are_titles : titles ≡ map scope_titles (scopes_of t)
