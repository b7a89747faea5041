-- Elements of `dependsOn` that name something, and no two keys.
use Rattle.std.specs.Prelude.{◌≡◌, ℕ, true, false, List, slice_get, Some}
use Rattle.arm_value.specs.Json.{Json}
use Rattle.arm_ids.specs.declared.id.ResourceId.{ResourceId}
use Rattle.reading.specs.Knowledge.{value, told}
use Rattle.deploy_cells.specs.Cells.{Step, step, Position}
use Rattle.deploy_cells.specs.Same.{same_id}
use Rattle.plan_cells.specs.Resources.{Listed}
use Rattle.plan_cells.specs.Scopes.{resource_of}
use Rattle.lack_faults.specs.Elements.{element_at}
use Rattle.plan_openers.specs.declared.opener.Opener.{Opener}
use Rattle.plan_faults.specs.Dependencies.{is_title_at, IsNamed, IsUnknown, IsAmbiguous}
use Rattle.plan_table.specs.declared.line.Spot.{Spot}
use Rattle.plan_table.specs.declared.line.Spot.TheVariants.{Included}
use Rattle.plan_table.specs.declared.table.Table.{Table}
use Rattle.plan_table.specs.Whole.{whole_of}
use Rattle.plan_table.specs.Found.{scope_at}
use Rattle.plan_tasks.specs.Start.{start_of}

-- a value of an element of an instance of a scope is a title, or names instances, all of one key
pub record IsMet (t : Table) (p : Position) (v : Json) : Type 0 where
  pub some : is_title_at (whole_of t) (start_of t) p v ≡ false
      → ((s : Step) (k : ResourceId) → IsNamed (whole_of t) (start_of t) p v s k → ⊥) → ⊥
  pub one : is_title_at (whole_of t) (start_of t) p v ≡ false → (s u : Step) (k l : ResourceId)
      → IsNamed (whole_of t) (start_of t) p v s k → IsNamed (whole_of t) (start_of t) p v u l → same_id k l ≡ true

-- no element of an instance names nothing or two keys
pub record AreMet (t : Table) (p : Position) (s : Step) : Type 0 where
  pub known : (path : List ℕ) (u : IsUnknown (whole_of t) (start_of t) path)
      → u.is_element.position ≡ p → u.is_element.instance ≡ s → ⊥
  pub one : (path : List ℕ) (u : IsAmbiguous (whole_of t) (start_of t) path)
      → u.is_element.position ≡ p → u.is_element.instance ≡ s → ⊥

-- the instance of a line of a condition has no such element
abbrev pub IsLineMet : Table → Spot → Type 0
IsLineMet t (Included f r i) = AreMet t (scope_at t f).position (step r i)
IsLineMet t _ = Unit {0}

-- the element at a place of the list of an instance has this value
pub record IsReadAt (t : Table) (x : Opener) (k : ℕ) (v : Json) : Type 0 where
  pub listed : Listed
  pub is_listed : resource_of (whole_of t).template (scope_at t x.frame).position x.resource ≡ Some listed
  pub tree : Json
  pub has : slice_get listed.declaration.depends_on k ≡ Some tree
  pub is : told (start_of t) (element_at t x tree) ≡ value v
