-- Which line is found for a cell.
use Rattle.std.specs.Prelude.{◌≡◌, ℕ, ◌<◌, length, true, Some}
use Rattle.arm_value.specs.View.{json}
use Rattle.plan_filling.specs.Cells.{Cell, parameter, variable, offered, output, count, included, name, deployments, state, copies}
use Rattle.plan_filling.specs.Children.{Has, parameter_names, variable_names, output_names}
use Rattle.plan_table.specs.declared.table.Table.{Table}
use Rattle.plan_table.specs.declared.line.State.{State}
use Rattle.plan_table.specs.declared.line.State.TheVariants as how
use Rattle.plan_table.specs.Opened.{Opened, opened_at}
use Rattle.plan_table.specs.Lines.{frame_of, cell_of, line_at, IsNumber}
use Rattle.plan_table.specs.Whole.{scopes_of}
use Rattle.arm_value.specs.Kinds.{is_true}

-- the scope of a frame
abbrev pub scope_at : Table → ℕ → Opened
scope_at t f = opened_at (scopes_of t) f

-- the template of the scope has the cell
abbrev pub HasCell : Opened → Cell → Type 0
HasCell o (parameter p x) = (o.is_own ≡ true) × Has x (parameter_names o.template)
HasCell o (variable p x) = (o.is_own ≡ true) × Has x (variable_names o.template)
HasCell o (offered p x) = Has x (output_names o.template)
HasCell o (output p x) = Has x (output_names o.template)
HasCell o (count p r) = IsNumber o r
HasCell o (included p s) = IsNumber o s.resource
HasCell o (name p s) = IsNumber o s.resource
HasCell o (deployments p) = Unit {0}
HasCell o (state k) = ⊥

-- the line is that of the cell of a scope
pub record IsLineOf (t : Table) (f : ℕ) (c : Cell) (j : ℕ) : Type 0 where
  pub listed : j < length t.lines.items
  pub frame : frame_of (line_at t.lines.items j).spot ≡ f
  pub is : cell_of (scopes_of t) (line_at t.lines.items j).spot ≡ c
  pub has : HasCell (scope_at t f) c

abbrev pub state_at : Table → ℕ → State
state_at t j = (line_at t.lines.items j).state

-- the line has a value that lists this many instances
abbrev pub Counts : ℕ → State → Type 0
Counts i (how.Value v) = i < copies (Some (json v))
Counts i _ = ⊥

-- the line has the value true
abbrev pub IsTrueLine : State → Type 0
IsTrueLine (how.Value v) = is_true (Some (json v)) ≡ true
IsTrueLine _ = ⊥
