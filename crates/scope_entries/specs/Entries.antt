-- What is told of the parameters and variables of a scope at a point, and what of them is kept.
use Rattle.std.specs.Prelude.{◌≡◌, ◌⊎◌, ◌==◌, ℕ, ◌<◌, ◌≤◌, Bool, true, false, List, length, map, Option, Some, None}
use Rattle.arm_value.specs.Json.{Json}
use Rattle.arm_ids.specs.declared.id.ResourceId.{ResourceId}
use Rattle.arm_value.specs.View.{json}
use Rattle.reading.specs.World.{Each}
use Rattle.reading.specs.Knowledge.{Told, value, waits, absent, Grows, IsThere}
use Rattle.deploy_cells.specs.Cells.{Cell, state}
use Rattle.plan_cells.specs.Known.{entry_told}
use Rattle.plan_cells.specs.Meaning.{plain}
use Rattle.plan_cells.specs.Children.{Has}
use Rattle.plan_cells.specs.Reads.{entry_cells}
use Rattle.plan_filling.specs.Rows.{row_at}
use Rattle.plan_filling.specs.declared.sheet.Answer.{Answer}
use Rattle.plan_filling.specs.declared.sheet.Answer.TheVariants as answer
use Rattle.plan_table.specs.declared.table.Table.{Table}
use Rattle.plan_table.specs.declared.line.Spot.{Spot}
use Rattle.plan_table.specs.declared.line.Spot.TheVariants.{Parameter, Variable, Offered, Output, Count, Included}
use Rattle.plan_table.specs.declared.line.Spot.TheVariants.{Name, Deployments}
use Rattle.plan_table.specs.Lines.{cell_of, line_at}
use Rattle.plan_table.specs.Whole.{whole_of, scopes_of, rows_in}
use Rattle.plan_table.specs.Found.{scope_at}
use Rattle.deploy_histories.specs.Planned.{Planned}
use Rattle.deploy_histories.specs.Events.{Progress}
use Rattle.point_values.specs.Seen.{IsSeen}
use Rattle.point_rows.specs.declared.later.Entry.{Entry}
use Rattle.point_rows.specs.declared.later.Entry.TheVariants as entry
use Rattle.point_rows.specs.declared.later.Later.{Later}
use Rattle.point_rows.specs.Rows.{entry_at, known_now, told_now, IsFit, IsEntrySpot}
use Rattle.scope_entries.specs.declared.settling.Settling.{Settling}
use Rattle.scope_entries.specs.declared.settling.Settling.TheVariants.{Settled, State, Line, Nothing, Circle}
use Rattle.scope_entries.specs.declared.keeping.Turn.{Turn}
use Rattle.scope_entries.specs.declared.keeping.Turn.TheVariants as turn
use Rattle.scope_entries.specs.declared.settling.Round.{Round}
use Rattle.scope_entries.specs.declared.settling.Round.TheVariants as round

-- the cell of a line
abbrev pub line_cell : Table → ℕ → Cell
line_cell t j = cell_of (scopes_of t) (line_at t.lines.items j).spot

-- what is told at a point of a cell that is there
abbrev pub plain_now : Table → Later → Cell → Told Cell (Option Json)
plain_now t l c = told_now t l (plain (whole_of t) c)

-- the parameters and variables that a scope has of its own
abbrev pub own_of : Table → ℕ → List Cell
own_of t f = entry_cells (whole_of t) (scope_at t f).position

-- what an answer says of a cell at a point
abbrev pub IsAnswerNow : Table → Later → Cell → Answer → Type 0
IsAnswerNow t l c (answer.Value v) = plain_now t l c ≡ value (Some (json v))
IsAnswerNow t l c answer.Empty = entry_told (plain_now t l c) ≡ absent
IsAnswerNow t l c (answer.Waits j) =
    (j < length (rows_in t)) × (plain_now t l c ≡ waits (row_at (rows_in t) j).cell)
IsAnswerNow t l c (answer.State k) = plain_now t l c ≡ waits (state k)

-- ---- entries

-- the entry is what is told of a cell
abbrev pub IsToldEntry : Table → Later → Cell → Entry → Type 0
IsToldEntry t l c (entry.Value v) = plain_now t l c ≡ value (Some (json v))
IsToldEntry t l c entry.Away = entry_told (plain_now t l c) ≡ absent
IsToldEntry t l c entry.Missing = Unit {0}

-- the entry of each parameter and variable is what is told of it
abbrev pub AreTold : Table → Later → Type 0
AreTold t l =
    (j : ℕ) → j < length t.lines.items → IsEntrySpot (line_at t.lines.items j).spot
    → IsToldEntry t l (line_cell t j) (entry_at l.entries.items j)

-- what it comes to that a line has no value: settling goes on, or the scope is not settled
abbrev pub nothing_turn : Bool → ℕ → Turn
nothing_turn true j = turn.Kept
nothing_turn false j = turn.Stopped (Nothing j)

-- what a line comes to that has an entry
abbrev pub kept_turn : Bool → Entry → ℕ → Option Turn
kept_turn on (entry.Value v) j = Some turn.Kept
kept_turn on entry.Away j = Some (nothing_turn on j)
kept_turn on entry.Missing j = None

-- more is known of parameters and variables: what was known stays, what is seen at a point is so still, and each entry
-- is what is told
pub record Goes (t : Table) (l m : Later) : Type 0 where
  pub fit : IsFit t l → IsFit t m
  pub states : m.states.items ≡ l.states.items
  pub grows : Grows (known_now t l) (known_now t m)
  pub seen : (x : Planned) (p : Progress) → x.deployment ≡ whole_of t → IsSeen x p (known_now t l)
      → IsSeen x p (known_now t m)
  pub told : AreTold t l → AreTold t m

-- ---- the lines of a scope

-- the parameter or variable is one of the scope
abbrev pub is_own_spot : ℕ → Spot → Bool
is_own_spot f (Parameter g n) = g == f
is_own_spot f (Variable g n) = g == f
is_own_spot f (Offered g n) = false
is_own_spot f (Output g n) = false
is_own_spot f (Count g r) = false
is_own_spot f (Included g r i) = false
is_own_spot f (Name g r i) = false
is_own_spot f (Deployments g) = false

pub record IsOwnLine (t : Table) (f j : ℕ) : Type 0 where
  pub listed : j < length t.lines.items
  pub is_own : is_own_spot f (line_at t.lines.items j).spot ≡ true

abbrev pub AreOwnLines : Table → ℕ → List ℕ → Type 0
AreOwnLines t f js = Each (IsOwnLine t f) js

abbrev pub cells_at : Table → List ℕ → List Cell
cells_at t js = map (line_cell t) js

-- ---- what is returned

-- the cell has a value by what is known, and something is known of it
pub record IsSettled (t : Table) (l : Later) (c : Cell) : Type 0 where
  pub has : Json
  pub is_told : plain_now t l c ≡ value (Some has)
  pub is_there : IsThere (known_now t l c)

-- the cell is told to have no value, and that is known
pub record IsAbsent (t : Table) (l : Later) (c : Cell) : Type 0 where
  pub is_absent : entry_told (plain_now t l c) ≡ absent
  pub is_there : IsThere (known_now t l c)

-- the cell has a value; or none, where settling goes on past those
abbrev pub IsDecided : Bool → Table → Later → Cell → Type 0
IsDecided false t l c = IsSettled t l c
IsDecided true t l c = IsSettled t l c ⊎ IsAbsent t l c

-- the cell waits for one of the scope
pub record IsHeldUp (t : Table) (l : Later) (f : ℕ) (c : Cell) : Type 0 where
  pub other : Cell
  pub is_own : Has other (own_of t f)
  pub is_awaited : plain_now t l c ≡ waits other

-- the cell is one of some of the scope, each of which waits for one of them; all others are decided
pub record IsCircle (on : Bool) (t : Table) (l : Later) (f : ℕ) (c : Cell) : Type 0 where
  pub cells : List Cell
  pub has : Has c cells
  pub own : (e : Cell) → Has e cells → Has e (own_of t f)
  pub awaits : (e : Cell) → Has e cells → (d : Cell) × (Has d cells × (plain_now t l e ≡ waits d))
  pub others : (e : Cell) → Has e (own_of t f) → IsDecided on t l e ⊎ Has e cells

-- a cell of the scope waits for the state at the key
pub record WaitsForState (t : Table) (l : Later) (f : ℕ) (k : ResourceId) : Type 0 where
  pub cell : Cell
  pub is_own : Has cell (own_of t f)
  pub is_awaited : plain_now t l cell ≡ waits (state k)

-- a cell of the scope waits for the cell of the line, which is none of the scope's
pub record WaitsForLine (t : Table) (l : Later) (f j : ℕ) : Type 0 where
  pub cell : Cell
  pub is_own : Has cell (own_of t f)
  pub listed : j < length (rows_in t)
  pub is_awaited : plain_now t l cell ≡ waits (row_at (rows_in t) j).cell
  pub is_other : Has (row_at (rows_in t) j).cell (own_of t f) → ⊥

-- the cell of the line is one of the scope, and has no value
pub record HasNothing (t : Table) (l : Later) (f j : ℕ) : Type 0 where
  pub is_own : Has (line_cell t j) (own_of t f)
  pub is_nothing : entry_told (plain_now t l (line_cell t j)) ≡ absent

abbrev pub IsSettling : Bool → Table → Later → ℕ → Settling → Type 0
IsSettling on t l f Settled = (c : Cell) → Has c (own_of t f) → IsDecided on t l c
IsSettling on t l f (State k) = WaitsForState t l f k
IsSettling on t l f (Line j) = WaitsForLine t l f j
IsSettling on t l f (Nothing j) = (on ≡ false) × HasNothing t l f j
IsSettling on t l f (Circle j) = IsCircle on t l f (line_cell t j)

-- ---- one line, and all lines once

-- the line is decided; or nothing became known, and it waits for another of the scope; or settling ends
abbrev pub IsTurn : Bool → Table → Later → Later → ℕ → ℕ → Turn → Type 0
IsTurn on t l m f j turn.Kept = IsDecided on t m (line_cell t j)
IsTurn on t l m f j turn.Waiting = (m ≡ l) × IsHeldUp t l f (line_cell t j)
IsTurn on t l m f j (turn.Stopped s) = IsSettling on t m f s

-- the line is decided, or is left
abbrev pub IsCovered : Bool → Table → Later → List ℕ → ℕ → Type 0
IsCovered on t l left j = IsDecided on t l (line_cell t j) ⊎ Has j left

-- which lines are left
pub record IsRound (on : Bool) (t : Table) (m : Later) (f : ℕ) (pending left : List ℕ) : Type 0 where
  pub few : length left ≤ length pending
  pub own : AreOwnLines t f left
  pub covered : Each (IsCovered on t m left) pending
  pub held : length left ≡ length pending → Each (λ j. IsHeldUp t m f (line_cell t j)) left

abbrev pub IsRoundOf : Bool → Table → Later → ℕ → List ℕ → Round → Type 0
IsRoundOf on t m f pending (round.Left left) = IsRound on t m f pending left.items
IsRoundOf on t m f pending (round.Stopped s) = IsSettling on t m f s

-- each parameter and variable of the scope is decided, or its line is one of these
abbrev pub AreCovered : Bool → Table → Later → ℕ → List ℕ → Type 0
AreCovered on t l f js = (c : Cell) → Has c (own_of t f) → IsDecided on t l c ⊎ Has c (cells_at t js)

-- the lines are those of the parameters and variables of the scope, in their order
pub record AreLinesOf (t : Table) (f : ℕ) (js : List ℕ) : Type 0 where
  pub own : AreOwnLines t f js
  pub cells : cells_at t js ≡ own_of t f
