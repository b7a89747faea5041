-- The faults of the parameters, variables and outputs of a scope at a point of a deployment.
use Rattle.std.specs.Prelude.{◌≡◌, ◌⊎◌, ℕ, ◌<◌, Bool, true, false, List, ◌∷◌, ◌++◌, length, Option, Some, None}
use Rattle.std.specs.Prelude.{option_and_then}
use Rattle.arm_value.specs.Json.{Json, bool}
use Rattle.reading.specs.World.{Each}
use Rattle.reading.specs.Knowledge.{Told, value, no_value, waits}
use Rattle.template_parts.specs.declared.fault.BindFault.{BindFault}
use Rattle.template_parts.specs.declared.output.Output.{Output}
use Rattle.template_parameters.specs.Rule.{is_of}
use Rattle.deploy_cells.specs.Cells.{Position, Cell, offered, output}
use Rattle.deploy_cells.specs.Guarded.{there_if}
use Rattle.plan_cells.specs.Scopes.{template_at}
use Rattle.plan_cells.specs.Sites.{output_named}
use Rattle.plan_cells.specs.Children.{Has}
use Rattle.plan_cells.specs.Meaning.{Deployment, raw, rule}
use Rattle.plan_table.specs.declared.table.Table.{Table}
use Rattle.plan_table.specs.Lines.{name_at}
use Rattle.plan_table.specs.Whole.{whole_of}
use Rattle.plan_sight.specs.declared.lack.Lack.{Lack}
use Rattle.plan_paths.specs.CellPaths.{cell_path}
use Rattle.plan_faults.specs.Rules.{broken, wrong_unless}
use Rattle.point_rows.specs.declared.later.Later.{Later}
use Rattle.point_rows.specs.Rows.{told_now}
use Rattle.scope_outputs.specs.Entries.{plain_now, own_of, line_cell}
use Rattle.scope_outputs.specs.Outputs.{position_of, names_of, reading_of}
use Rattle.task_standings.specs.declared.standing.TaskFault.{TaskFault}
use Rattle.task_standings.specs.declared.standing.TaskFault.TheVariants.{NoValue, Unsuited}
use Rattle.scope_faults.specs.declared.outputs.OutputLook.{OutputLook}
use Rattle.scope_faults.specs.declared.outputs.OutputLook.TheVariants as look
use Rattle.scope_faults.specs.Circles.{IsAwait}

-- ---- rules

-- how a value breaks the rule of an output: it is not of its type
abbrev pub output_breach : Json → Option Output → Option BindFault
output_breach j o = option_and_then (λ y. wrong_unless (is_of y.kind j) y.name) o

-- how a value breaks the rule of a cell
abbrev pub broken_by : Deployment → Cell → Json → Option BindFault
broken_by d (output p x) j = output_breach j (option_and_then (output_named x) (template_at d.template p))
broken_by d c j = broken d c j

-- ---- one cell

-- what is told of the value of a cell, before its rule is asked
abbrev pub raw_told : Table → Later → Cell → Told Cell (Option Json)
raw_told t l c = told_now t l (there_if (raw (whole_of t) c))

-- a value is told of the cell that breaks its rule, and this is how; or none is told
abbrev pub IsBroken : Table → Later → Cell → Option BindFault → Type 0
IsBroken t l c None = (j : Json) → raw_told t l c ≡ value (Some j) → ⊥
IsBroken t l c (Some b) =
    (j : Json) × ((raw_told t l c ≡ value (Some j)) × ((rule (whole_of t) c j ≡ false)
    × (broken_by (whole_of t) c j ≡ Some b)))

-- what is said of a text at a path: it has no value, or its value breaks the rule so
abbrev pub said_of : List ℕ → Option BindFault → TaskFault
said_of path None = NoValue path
said_of path (Some b) = Unsuited path b

-- what is said of the fault of a cell
abbrev pub SaysCell : Table → Later → Cell → TaskFault → Type 0
SaysCell t l c said =
    (o : Option BindFault) × (IsBroken t l c o × (said ≡ said_of (cell_path (whole_of t).template c) o))

-- ---- parameters and variables

abbrev pub HasValue : Table → Later → Cell → Type 0
HasValue t l c = (j : Json) × (plain_now t l c ≡ value (Some j))

abbrev pub HasNone : Table → Later → Cell → Type 0
HasNone t l c = (j : Json) → plain_now t l c ≡ value (Some j) → ⊥

abbrev pub IsValued : Table → Later → Cell → Bool → Type 0
IsValued t l c true = HasValue t l c
IsValued t l c false = HasNone t l c

-- the cell is the first of these that has no value
pub record IsFirst (t : Table) (l : Later) (cs : List Cell) (c : Cell) : Type 0 where
  pub front : List Cell
  pub rest : List Cell
  pub is : cs ≡ front ++ c ∷ rest
  pub before : Each (HasValue t l) front
  pub here : HasNone t l c

-- the first of the lines whose cell has no value, if there is one
abbrev pub IsFirstLine : Table → Later → List ℕ → List Cell → Option ℕ → Type 0
IsFirstLine t l js cs None = Each (HasValue t l) cs
IsFirstLine t l js cs (Some j) = Has j js × IsFirst t l cs (line_cell t j)

-- what is said of the first parameter or variable of the scope that has no value, if there is one
abbrev pub IsEntryFault : Table → Later → ℕ → Option TaskFault → Type 0
IsEntryFault t l f None = Each (HasValue t l) (own_of t f)
IsEntryFault t l f (Some said) = (c : Cell) × (IsFirst t l (own_of t f) c × SaysCell t l c said)

-- ---- outputs

abbrev pub output_at : Table → ℕ → ℕ → List ℕ
output_at t f n = name_at (names_of t f) n

-- what is told of the output of a number
abbrev pub output_told : Table → Later → ℕ → ℕ → Told Cell (Option Json)
output_told t l f n = told_now t l (reading_of t f (output_at t f n))

-- what a look at an output found
abbrev pub IsOutputLook : Table → Told Cell (Option Json) → OutputLook → Type 0
IsOutputLook t u look.Told = (o : Option Json) × (u ≡ value o)
IsOutputLook t u look.Nothing = u ≡ no_value
IsOutputLook t u (look.Lacks e) = IsAwait {A = Option Json} t e u

-- what it waits for, if it waits
abbrev pub IsOutputLack : Table → Told Cell (Option Json) → Option Lack → Type 0
IsOutputLack t u None = (c : Cell) → u ≡ waits c → ⊥
IsOutputLack t u (Some e) = IsAwait {A = Option Json} t e u

-- whether it has no value
abbrev pub IsNothing : Told Cell (Option Json) → Bool → Type 0
IsNothing u true = u ≡ no_value
IsNothing u false = u ≡ no_value → ⊥

-- what one of the outputs waits for, if one waits
abbrev pub AreOutputLacks : Table → Later → ℕ → Option Lack → Type 0
AreOutputLacks t l f None = (x : List ℕ) → Has x (names_of t f) → IsOutputLack t (told_now t l (reading_of t f x)) None
AreOutputLacks t l f (Some e) =
    (x : List ℕ) × (Has x (names_of t f) × IsAwait {A = Option Json} t e (told_now t l (reading_of t f x)))

-- the condition of the output is known
abbrev pub HasCondition : Table → Later → Position → List ℕ → Type 0
HasCondition t l p x = (b : Bool) × (plain_now t l (offered p x) ≡ value (Some (bool b)))

-- the condition has no value; or a value is told of the output that breaks its rule, and this is how, or none is told
abbrev pub IsOutputBroken : Table → Later → Position → List ℕ → Option BindFault → Type 0
IsOutputBroken t l p x None =
    (plain_now t l (offered p x) ≡ no_value) ⊎ (HasCondition t l p x × IsBroken t l (output p x) None)
IsOutputBroken t l p x (Some b) = HasCondition t l p x × IsBroken t l (output p x) (Some b)

-- what is said of the fault of an output
abbrev pub SaysOutput : Table → Later → Position → List ℕ → TaskFault → Type 0
SaysOutput t l p x said =
    (o : Option BindFault) × (IsOutputBroken t l p x o
    × (said ≡ said_of (cell_path (whole_of t).template (output p x)) o))

-- the output of the number is the first that has no value
pub record IsFirstOutput (t : Table) (l : Later) (f n : ℕ) : Type 0 where
  pub before : (k : ℕ) → k < n → output_told t l f k ≡ no_value → ⊥
  pub here : output_told t l f n ≡ no_value

-- what is said of the first output of the scope that has no value, if there is one
abbrev pub IsLeaveFault : Table → Later → ℕ → Option TaskFault → Type 0
IsLeaveFault t l f None = (x : List ℕ) → Has x (names_of t f) → told_now t l (reading_of t f x) ≡ no_value → ⊥
IsLeaveFault t l f (Some said) =
    (n : ℕ) × ((n < length (names_of t f)) × (IsFirstOutput t l f n
    × SaysOutput t l (position_of t f) (output_at t f n) said))
