-- From one sheet to a later one.
use Rattle.std.specs.Prelude.{◌≡◌, ◌⊎◌, ℕ, ◌<◌, ◌≤◌, ◌^◌, List, [], ◌∷◌, ◌++◌, length, Option, Some}
use Rattle.arm_ids.specs.declared.id.ResourceId.{ResourceId}
use Rattle.reading.specs.Knowledge.{value, waits, told, absent, Grows}
use Rattle.plan_cells.specs.Cells.{Cell, state}
use Rattle.plan_cells.specs.Known.{entry_told}
use Rattle.plan_cells.specs.Meaning.{Deployment, meaning}
use Rattle.plan_cells.specs.Children.{Has, AreApart, children}
use Rattle.plan_filling.specs.Rows.{Status, New, Open, Value, Empty, Late, Row, row_at, weights, table, status_of}
use Rattle.plan_filling.specs.Rows.{IsFinished}
use Rattle.plan_filling.specs.Rows.{IsUnfinished}
use Rattle.plan_filling.specs.Sound.{Sound, IsLate}
use Rattle.plan_filling.specs.declared.visit.Turn.{Turn}
use Rattle.plan_filling.specs.declared.visit.Turn.TheVariants as turn

-- what is finished stays as it is
pub record Keeps (old new : List Row) : Type 0 where
  pub longer : length old ≤ length new
  pub finished : (i : ℕ) → i < length old → IsFinished (row_at old i).status → row_at new i ≡ row_at old i

-- the status at one place changes, and new cells are added
pub record Touched (old new : List Row) (i : ℕ) (s : Status) : Type 0 where
  pub longer : length old ≤ length new
  pub there : row_at new i ≡ record { cell = (row_at old i).cell; status = s }
  pub others : (j : ℕ) → j < length old → (j ≡ i → ⊥) → row_at new j ≡ row_at old j
  pub added : (j : ℕ) → length old ≤ j → j < length new → (row_at new j).status ≡ New

-- the status of one cell changes, and cells are added
pub record Changes (σ τ : Cell → Option Status) (c : Cell) (s : Status) (cs : List Cell) : Type 0 where
  pub old : Status
  pub was : σ c ≡ Some old
  pub unfinished : IsUnfinished old
  pub is : τ c ≡ Some s
  pub others : (d : Cell) (u : Status) → σ d ≡ Some u → (c ≡ d → ⊥) → τ d ≡ Some u
  pub added : (d : Cell) → Has d cs → τ d ≡ Some New
  pub origin : (d : Cell) (u : Status) → τ d ≡ Some u
      → ((d ≡ c) × (u ≡ s)) ⊎ ((σ d ≡ Some u) ⊎ (Has d cs × (u ≡ New)))

abbrev pub IsLateNow : Deployment → (Cell → Option Status) → Cell → ResourceId → Type 0
IsLateNow t σ c k =
    (told (table σ) (meaning t c) ≡ waits (state k))
    ⊎ ((d : Cell) × ((told (table σ) (meaning t c) ≡ waits d) × IsLate t σ d k))

-- why the status may change so
abbrev pub Justified : Deployment → (Cell → Option Status) → Cell → Status → List Cell → Type 0
Justified t σ c New cs = ⊥
Justified t σ c Open cs = cs ≡ []
Justified t σ c (Value v) cs = (told (table σ) (meaning t c) ≡ value (Some v)) × (cs ≡ children t c v)
Justified t σ c Empty cs = (entry_told (told (table σ) (meaning t c)) ≡ absent) × (cs ≡ [])
Justified t σ c (Late k) cs = IsLateNow t σ c k × (cs ≡ [])

-- a step forward: the status at a place changes
pub record Advanced (t : Deployment) (old new : List Row) (i : ℕ) (s : Status) : Type 0 where
  pub sound : Sound t new
  pub keeps : Keeps old new
  pub touched : Touched old new i s
  pub grows : Grows (table (status_of old)) (table (status_of new))
  pub more : weights old < weights new
  pub before : weights old < 2 ^ 33

-- a cell waits for another
abbrev pub WaitsFor : Deployment → List Row → ℕ → ℕ → Type 0
WaitsFor t rows i j = told (table (status_of rows)) (meaning t (row_at rows i).cell) ≡ waits (row_at rows j).cell

-- the cell is finished
pub record IsDone (t : Deployment) (old new : List Row) (top : ℕ) : Type 0 where
  pub status : Status
  pub is_finished : IsFinished status
  pub advanced : Advanced t old new top status

-- the cell waits for another, which is begun
pub record IsFirst (t : Deployment) (old new : List Row) (top j : ℕ) : Type 0 where
  pub listed : j < length old
  pub was_new : (row_at old j).status ≡ New
  pub advanced : Advanced t old new j Open
  pub waits_for : WaitsFor t new top j

-- the cell waits for another that is begun and not finished; nothing changed
pub record IsStuck (t : Deployment) (old new : List Row) (top j : ℕ) : Type 0 where
  pub same : new ≡ old
  pub listed : j < length old
  pub was_open : (row_at old j).status ≡ Open
  pub waits_for : WaitsFor t old top j

-- what a turn says
abbrev pub Turned : Deployment → List Row → List Row → ℕ → Turn → Type 0
Turned t old new top turn.Done = IsDone t old new top
Turned t old new top (turn.First j) = IsFirst t old new top j
Turned t old new top (turn.Circle j) = IsStuck t old new top j

abbrev pub AllOpen : List Row → List ℕ → Type 0
AllOpen rows [] = Unit {0}
AllOpen rows (i ∷ xs) = ((i < length rows) × ((row_at rows i).status ≡ Open)) × AllOpen rows xs

-- each waits for the next
abbrev pub IsChain : Deployment → List Row → List ℕ → Type 0
IsChain t rows [] = Unit {0}
IsChain t rows (i ∷ []) = Unit {0}
IsChain t rows (i ∷ j ∷ xs) = WaitsFor t rows i j × IsChain t rows (j ∷ xs)

-- a visit on its way: the cells on the stack are those that are begun and not finished, each waits for the next, and
-- the cell that the visit began with is finished or on the stack
pub record OnTheWay (t : Deployment) (first now : List Row) (start : ℕ) (stack : List ℕ) : Type 0 where
  pub sound : Sound t now
  pub keeps : Keeps first now
  pub are_open : AllOpen now stack
  pub all_open : (i : ℕ) → i < length now → (row_at now i).status ≡ Open → Has i stack
  pub apart : AreApart stack
  pub chain : IsChain t now stack
  pub pending : IsFinished (row_at now start).status ⊎ Has start stack

-- no cell is begun and not finished
abbrev pub NoneOpen : List Row → Type 0
NoneOpen rows = (i : ℕ) → i < length rows → (row_at rows i).status ≡ Open → ⊥

-- one cell is begun and not finished, and no other
pub record OneOpen (rows : List Row) (start : ℕ) : Type 0 where
  pub is_open : (row_at rows start).status ≡ Open
  pub alone : (i : ℕ) → i < length rows → (row_at rows i).status ≡ Open → start ≡ i

-- all below are finished
abbrev pub AreFinished : List Row → ℕ → Type 0
AreFinished rows n = (i : ℕ) → i < n → IsFinished (row_at rows i).status

pub record Visited (t : Deployment) (old new : List Row) (start : ℕ) : Type 0 where
  pub sound : Sound t new
  pub keeps : Keeps old new
  pub finished : IsFinished (row_at new start).status
  pub none_open : NoneOpen new

-- cells wait for one another: each for the next, and the last for one of them
pub record IsCircle (t : Deployment) (rows : List Row) (places : List ℕ) (last back : ℕ) : Type 0 where
  pub chain : IsChain t rows (places ++ last ∷ [])
  pub closes : WaitsFor t rows last back
  pub has : Has back (places ++ last ∷ [])

-- filled as far as it goes
pub record Filled (t : Deployment) (rows : List Row) : Type 0 where
  pub sound : Sound t rows
  pub finished : AreFinished rows (length rows)
