-- Which task comes after which by the scopes that they are in, whatever is deployed; and deletions.
use Rattle.std.specs.Prelude.{◌≡◌, [], ◌∷◌, Option, Some, None}
use Rattle.arm_ids.specs.Parent.{IsParent}
use Rattle.arm_ids.specs.declared.id.ResourceId.{ResourceId}
use Rattle.deploy_cells.specs.Cells.{Position}
use Rattle.plan_cells.specs.Tasks.{Task, enter, leave, put, delete}

-- the scope that a task is in: the entry and the leave of a scope are in the scope around it
abbrev pub scope_of : Task → Option Position
scope_of (put p s) = Some p
scope_of (enter (s ∷ p)) = Some p
scope_of (leave (s ∷ p)) = Some p
scope_of _ = None

-- one task comes after another
pub data IsAfter (u v : Task) : Type 0 where
  -- a scope is entered before what is in it
  after_entry : (p : Position) → scope_of u ≡ Some p → v ≡ enter p → IsAfter u v
  -- it is left after what is in it, and after its entry
  after_inside : (p : Position) → u ≡ leave p → scope_of v ≡ Some p → IsAfter u v
  after_own_entry : (p : Position) → u ≡ leave p → v ≡ enter p → IsAfter u v
  -- what is deleted is deleted after the root was left, and after its children
  after_root : (k : ResourceId) → u ≡ delete k → v ≡ leave [] → IsAfter u v
  after_child : (k child : ResourceId) → u ≡ delete k → v ≡ delete child → IsParent k child → IsAfter u v
