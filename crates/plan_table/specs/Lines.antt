-- The cells of the lines of a table, and the rows that they are.
use Rattle.std.specs.Prelude.{◌≡◌, ℕ, ◌<◌, Bool, true, false, List, [], ◌∷◌, map, length, slice_get, slice_index_or}
use Rattle.std.specs.Prelude.{slice_set, Some}
use Rattle.arm_value.specs.View.{json}
use Rattle.arm_value.specs.declared.value.Value.{Value}
use Rattle.plan_filling.specs.Cells.{Step, step, Position, Cell, parameter, variable, offered, output, count, included, name, deployments, state}
use Rattle.plan_filling.specs.Resources.{Listed}
use Rattle.plan_filling.specs.Children.{parameter_names, variable_names, output_names}
use Rattle.plan_filling.specs.Rows as rows
use Rattle.plan_filling.specs.Rows.{Status, Row}
use Rattle.plan_table.specs.declared.line.Line.{Line}
use Rattle.plan_table.specs.declared.line.Spot.{Spot}
use Rattle.plan_table.specs.declared.line.Spot.TheVariants.{Parameter, Variable, Offered, Output, Count, Included}
use Rattle.plan_table.specs.declared.line.Spot.TheVariants.{Name, Deployments}
use Rattle.plan_table.specs.declared.line.State.{State}
use Rattle.plan_table.specs.declared.line.State.TheVariants as how
use Rattle.plan_table.specs.Opened.{Opened, opened_at}

abbrev pub frame_of : Spot → ℕ
frame_of (Parameter f n) = f
frame_of (Variable f n) = f
frame_of (Offered f n) = f
frame_of (Output f n) = f
frame_of (Count f r) = f
frame_of (Included f r i) = f
frame_of (Name f r i) = f
frame_of (Deployments f) = f

abbrev pub name_at : List (List ℕ) → ℕ → List ℕ
name_at xs n = slice_index_or xs n []

-- the cell of a spot of a scope
abbrev pub cell_in : Opened → Spot → Cell
cell_in o (Parameter f n) = parameter o.position (name_at (parameter_names o.template) n)
cell_in o (Variable f n) = variable o.position (name_at (variable_names o.template) n)
cell_in o (Offered f n) = offered o.position (name_at (output_names o.template) n)
cell_in o (Output f n) = output o.position (name_at (output_names o.template) n)
cell_in o (Count f r) = count o.position r
cell_in o (Included f r i) = included o.position (step r i)
cell_in o (Name f r i) = name o.position (step r i)
cell_in o (Deployments f) = deployments o.position

abbrev pub cell_of : List Opened → Spot → Cell
cell_of os s = cell_in (opened_at os (frame_of s)) s

-- a resource of the scope that is not existing has the number
pub record IsNumber (o : Opened) (r : ℕ) : Type 0 where
  pub listed : Listed
  pub has : slice_get o.resources r ≡ Some listed
  pub is_put : listed.declaration.existing ≡ false

-- the scope has the cell, where its instance is there
abbrev pub IsDeclared : Opened → Spot → Type 0
IsDeclared o (Parameter f n) = (o.is_own ≡ true) × (n < length (parameter_names o.template))
IsDeclared o (Variable f n) = (o.is_own ≡ true) × (n < length (variable_names o.template))
IsDeclared o (Offered f n) = n < length (output_names o.template)
IsDeclared o (Output f n) = n < length (output_names o.template)
IsDeclared o (Count f r) = IsNumber o r
IsDeclared o (Included f r i) = IsNumber o r × (i < 800)
IsDeclared o (Name f r i) = IsNumber o r × (i < 800)
IsDeclared o (Deployments f) = Unit {0}

-- the cell is one of a scope that is there
pub record IsPlaced (os : List Opened) (s : Spot) : Type 0 where
  pub there : frame_of s < length os
  pub declared : IsDeclared (opened_at os (frame_of s)) s

-- how far a cell is
abbrev pub status_in : State → Status
status_in how.New = rows.New
status_in how.Open = rows.Open
status_in (how.Value v) = rows.Value (json v)
status_in how.Empty = rows.Empty
status_in (how.Late k) = rows.Late k

abbrev pub row_of : List Opened → Line → Row
row_of os l = record { cell = cell_of os l.spot; status = status_in l.state }

abbrev pub rows_of : List Opened → List Line → List Row
rows_of os ls = map (row_of os) ls

abbrev pub new_line : Spot → Line
new_line s = record { spot = s; state = how.New; opened = 0 }

abbrev pub line_at : List Line → ℕ → Line
line_at ls j = slice_index_or ls j (new_line (Deployments 0))

-- a line with another state
abbrev pub with_state : List Line → ℕ → State → ℕ → List Line
with_state ls j x g = slice_set ls j (record { spot = (line_at ls j).spot; state = x; opened = g })

-- some line is this cell's
pub record IsAt (ls : List Line) (s : Spot) : Type 0 where
  pub line : ℕ
  pub listed : line < length ls
  pub is : (line_at ls line).spot ≡ s
