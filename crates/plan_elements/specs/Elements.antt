-- The elements of `dependsOn` of instances, as they are read at the start.
use Rattle.std.specs.Prelude.{◌≡◌, ℕ, List, slice_get, Some}
use Rattle.arm_value.specs.Json.{Json}
use Rattle.arm_eval.specs.Trees.{tree_value}
use Rattle.deploy_cells.specs.Cells.{step}
use Rattle.deploy_cells.specs.Guarded.{Reads}
use Rattle.plan_cells.specs.Sites.{reading_at, body_site}
use Rattle.plan_cells.specs.Resources.{Listed}
use Rattle.plan_table.specs.declared.table.Table.{Table}
use Rattle.plan_table.specs.Whole.{whole_of}
use Rattle.plan_table.specs.Found.{scope_at}
use Rattle.plan_tasks.specs.Start.{IsInstance}
use Rattle.plan_openers.specs.declared.opener.Opener.{Opener}
use Rattle.plan_sight.specs.declared.lack.Lack.{Lack}
use Rattle.plan_sight.specs.Ready.{told_in}
use Rattle.plan_sight.specs.Seen.{Stops}
use Rattle.plan_elements.specs.declared.elements.Unread.{Unread}
use Rattle.plan_elements.specs.declared.elements.Unread.TheVariants.{Element, OutOfMemory}

-- the reading of an element of `dependsOn` of an instance
abbrev pub element_at : Table → Opener → Json → Reads Json
element_at t x j = reading_at (whole_of t).template (whole_of t).place
    (body_site (whole_of t).template (scope_at t x.frame).position (step x.resource x.copy)) (tree_value j)

-- these are the elements of an instance
pub record AreElementsOf (t : Table) (x : Opener) (js : List Json) : Type 0 where
  pub listed : Listed
  pub is_listed : slice_get (scope_at t x.frame).resources x.resource ≡ Some listed
  pub are : listed.declaration.depends_on ≡ js

-- the element at a place of the list of an instance has no value at the start: it lacks this
pub record IsLacking (t : Table) (x : Opener) (k : ℕ) (e : Lack) : Type 0 where
  pub is_instance : IsInstance t x.frame x.resource x.copy
  pub elements : List Json
  pub are_elements : AreElementsOf t x elements
  pub tree : Json
  pub has : slice_get elements k ≡ Some tree
  pub stops : Stops t e (told_in t (element_at t x tree))

-- why the elements were not read
abbrev pub IsUnread : Table → Unread → Type 0
IsUnread t (Element x k e) = IsLacking t x k e
IsUnread t OutOfMemory = Unit {0}
