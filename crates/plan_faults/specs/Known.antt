-- What must be known at the start of a deployment, and what is known of it.
use Rattle.std.specs.Prelude.{◌≡◌, ◌⊎◌, ℕ, true, List, Option, Some, slice_get}
use Rattle.arm_value.specs.Json.{Json}
use Rattle.arm_ids.specs.declared.id.ResourceId.{ResourceId}
use Rattle.arm_eval.specs.Trees.{tree_value}
use Rattle.reading.specs.Knowledge.{Told, value, no_value, waits, blanked}
use Rattle.deploy_cells.specs.Cells.{Step, Position, Cell, state, is_admitted}
use Rattle.deploy_cells.specs.Guarded.{Reads}
use Rattle.plan_cells.specs.Resources.{Listed}
use Rattle.plan_cells.specs.Scopes.{resource_of}
use Rattle.plan_cells.specs.Sites.{reading_at, body_site}
use Rattle.plan_cells.specs.Known.{Table, entry_of, IsKnown}
use Rattle.plan_cells.specs.Meaning.{Deployment, meaning, raw}
use Rattle.plan_cells.specs.Start.{start}
use Rattle.plan_filling.specs.Final.{Leads}
use Rattle.plan_refusals.specs.Answered.{is_asked}
use Rattle.plan_refusals.specs.Refusals.{is_needed}
use Rattle.plan_paths.specs.CellPaths.{cell_path, element_path}

-- each entry of the table is known at the start
abbrev pub AreKnown : Deployment → Table → Type 0
AreKnown d q = (c : Cell) (o : Option Json) → q c ≡ entry_of o → IsKnown (meaning d) start c o

-- what is told of a reading waits for the state at a key, itself or through other cells
abbrev pub WaitsForState : Deployment → Table → Told Cell Json → ResourceId → Type 0
WaitsForState d q (waits c) k = (c ≡ state k) ⊎ Leads d q c k
WaitsForState d q (value v) k = ⊥
WaitsForState d q no_value k = ⊥

-- a cell that is there has this reading, before its rule is asked, and its text is at this path
pub record IsCellAt (d : Deployment) (q : Table) (path : List ℕ) (c : Cell) (r : Reads Json) : Type 0 where
  pub is_there : is_admitted (blanked q) c ≡ true
  pub is_raw : raw d c ≡ Some r
  pub has_path : cell_path d.template c ≡ path

-- an element of `dependsOn` of an instance has this reading, and is at this path
pub record IsElementAt (d : Deployment) (path : List ℕ) (r : Reads Json) : Type 0 where
  pub position : Position
  pub instance : Step
  pub number : ℕ
  pub listed : Listed
  pub is_listed : resource_of d.template position instance.resource ≡ Some listed
  pub tree : Json
  pub has : slice_get listed.declaration.depends_on number ≡ Some tree
  pub is : reading_at d.template d.place (body_site d.template position instance) (tree_value tree) ≡ r
  pub has_path : element_path d.template position instance number ≡ path

-- a count, a condition, a name or an element of `dependsOn`
pub record IsAskedCell (d : Deployment) (q : Table) (path : List ℕ) (r : Reads Json) : Type 0 where
  pub cell : Cell
  pub is_asked : is_asked cell ≡ true
  pub is_cell : IsCellAt d q path cell r

abbrev pub IsAskedAt : Deployment → Table → List ℕ → Reads Json → Type 0
IsAskedAt d q path r = IsAskedCell d q path r ⊎ IsElementAt d path r

-- one of these, or a parameter or a variable
pub record IsNeededCell (d : Deployment) (q : Table) (path : List ℕ) (r : Reads Json) : Type 0 where
  pub cell : Cell
  pub is_needed : is_needed cell ≡ true
  pub is_cell : IsCellAt d q path cell r

abbrev pub IsNeededAt : Deployment → Table → List ℕ → Reads Json → Type 0
IsNeededAt d q path r = IsNeededCell d q path r ⊎ IsElementAt d path r
