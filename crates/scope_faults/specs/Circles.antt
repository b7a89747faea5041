-- What parameters and variables of a scope that wait for one another read besides: what is told of them where each that
-- has no entry counts as one that has no value.
use Rattle.std.specs.Prelude.{◌≡◌, ◌⊎◌, ℕ, ◌<◌, Bool, true, false, List, [], ◌∷◌, length, slice_set, Option, Some, None}
use Rattle.std.specs.Prelude.{if◌then◌else◌}
use Rattle.arm_value.specs.Json.{Json}
use Rattle.reading.specs.World.{Each}
use Rattle.reading.specs.Knowledge.{Told, waits, absent, missing, IsThere}
use Rattle.deploy_cells.specs.Cells.{Cell, state}
use Rattle.plan_cells.specs.Children.{Has}
use Rattle.plan_filling.specs.Rows.{row_at}
use Rattle.plan_table.specs.declared.table.Table.{Table}
use Rattle.plan_table.specs.Whole.{rows_in}
use Rattle.plan_sight.specs.declared.lack.Lack.{Lack}
use Rattle.plan_sight.specs.declared.lack.Lack.TheVariants as lack
use Rattle.point_rows.specs.declared.later.Entry.{Entry}
use Rattle.point_rows.specs.declared.later.Entry.TheVariants as entry
use Rattle.point_rows.specs.declared.later.Later.{Later}
use Rattle.point_rows.specs.Rows.{entry_at, known_now}
use Rattle.scope_outputs.specs.Entries.{line_cell, plain_now, own_of, cells_at, IsOwnLine, AreOwnLines}

abbrev pub is_open : Entry → Bool
is_open entry.Missing = true
is_open (entry.Value v) = false
is_open entry.Away = false

-- those of the lines that have no entry
abbrev pub open_of : List Entry → List ℕ → List ℕ
open_of es [] = []
open_of es (j ∷ js) = if is_open (entry_at es j) then j ∷ open_of es js else open_of es js

-- the lines of the scope that have no entry; each cell of the scope is that of one of them, or of a line with an entry
pub record AreOpenLines (t : Table) (l : Later) (f : ℕ) (js : List ℕ) : Type 0 where
  pub own : AreOwnLines t f js
  pub vacant : Each (λ j. entry_at l.entries.items j ≡ entry.Missing) js
  pub others : (c : Cell) → Has c (own_of t f)
      → Has c (cells_at t js)
      ⊎ ((j : ℕ) × (IsOwnLine t f j × ((line_cell t j ≡ c) × (is_open (entry_at l.entries.items j) ≡ false))))

-- the entries with this one at each of the lines
abbrev pub set_all : Entry → List ℕ → List Entry → List Entry
set_all e [] es = es
set_all e (j ∷ js) es = set_all e js (slice_set es j e)

-- what is told of a cell waits for this, which is the cell of a line or a state
abbrev pub IsAwait : {A : Type 0} → Table → Lack → Told Cell A → Type 0
IsAwait t (lack.Line j) u = (j < length (rows_in t)) × (u ≡ waits (row_at (rows_in t) j).cell)
IsAwait t (lack.State k) u = u ≡ waits (state k)
IsAwait t lack.NotThere u = ⊥
IsAwait t lack.NoValue u = ⊥
IsAwait t lack.OutOfMemory u = ⊥

-- the cell waits for nothing
abbrev pub NeverWaits : Table → Later → Cell → Type 0
NeverWaits t l c = (d : Cell) → plain_now t l c ≡ waits d → ⊥

-- what the cell waits for, if it waits
abbrev pub IsLineLack : Table → Later → Cell → Option Lack → Type 0
IsLineLack t l c None = NeverWaits t l c
IsLineLack t l c (Some e) = IsAwait {A = Option Json} t e (plain_now t l c)

-- what one of the lines waits for, if one waits
abbrev pub AreLineLacks : Table → Later → List ℕ → Option Lack → Type 0
AreLineLacks t l js None = Each (λ j. NeverWaits t l (line_cell t j)) js
AreLineLacks t l js (Some e) = (j : ℕ) × (Has j js × IsAwait {A = Option Json} t e (plain_now t l (line_cell t j)))

-- the same is known, but for cells of the scope of which nothing is known: these have no value
pub record IsVacated (t : Table) (f : ℕ) (l m : Later) : Type 0 where
  pub cells : (c : Cell) → (known_now t m c ≡ known_now t l c)
      ⊎ (Has c (own_of t f) × ((known_now t l c ≡ missing) × (known_now t m c ≡ absent)))
  pub all : (c : Cell) → Has c (own_of t f) → IsThere (known_now t m c)

-- what one of the cells of the scope waits for, if one waits
abbrev pub IsLackOf : Table → Later → ℕ → Option Lack → Type 0
IsLackOf t m f None = (c : Cell) → Has c (own_of t f) → NeverWaits t m c
IsLackOf t m f (Some e) = (c : Cell) × (Has c (own_of t f) × IsAwait {A = Option Json} t e (plain_now t m c))

abbrev pub IsCircleLack : Table → Later → ℕ → Option Lack → Type 0
IsCircleLack t l f o = (m : Later) × (IsVacated t f l m × IsLackOf t m f o)
