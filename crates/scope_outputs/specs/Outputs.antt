-- What is told of the outputs of a scope at a point, and what of them is kept once the scope was left.
use Rattle.std.specs.Prelude.{◌≡◌, ℕ, ◌<◌, Bool, true, false, List, [], ◌∷◌, length, slice_get, slice_set, Option, Some}
use Rattle.std.specs.Prelude.{if◌then◌else◌}
use Rattle.arm_value.specs.Json.{Json, bool}
use Rattle.arm_value.specs.View.{json}
use Rattle.arm_ids.specs.declared.id.ResourceId.{ResourceId}
use Rattle.reading.specs.Knowledge.{value, no_value, waits, Grows, IsThere}
use Rattle.deploy_cells.specs.Cells.{Position, offered, output, state}
use Rattle.deploy_cells.specs.Guarded.{Reads}
use Rattle.plan_cells.specs.Children.{Has, output_names}
use Rattle.plan_cells.specs.Tasks.{leave}
use Rattle.plan_filling.specs.Rows.{row_at}
use Rattle.plan_table.specs.declared.table.Table.{Table}
use Rattle.plan_table.specs.Whole.{whole_of, rows_in}
use Rattle.plan_table.specs.Found.{scope_at, IsLineOf}
use Rattle.deploy_histories.specs.Planned.{Planned}
use Rattle.deploy_histories.specs.Events.{Progress, IsDone}
use Rattle.deploy_histories.specs.Values.{output_reading}
use Rattle.point_values.specs.Seen.{IsSeen}
use Rattle.point_rows.specs.declared.later.Entry.{Entry}
use Rattle.point_rows.specs.declared.later.Entry.TheVariants as entry
use Rattle.point_rows.specs.declared.later.Later.{Later}
use Rattle.point_rows.specs.Rows.{entry_at, known_now, told_now, IsFit}
use Rattle.scope_entries.specs.Entries.{plain_now, AreTold}
use Rattle.scope_outputs.specs.declared.telling.Noted.{Noted}
use Rattle.scope_outputs.specs.declared.offering.Offering.{Offering}
use Rattle.scope_outputs.specs.declared.offering.Offering.TheVariants.{Told, State, Line, Nothing}
use Rattle.scope_outputs.specs.declared.offering.Note.{Note}
use Rattle.scope_outputs.specs.declared.offering.Note.TheVariants as note

-- ---- what is told

abbrev pub position_of : Table → ℕ → Position
position_of t f = (scope_at t f).position

-- the names of the outputs of a scope
abbrev pub names_of : Table → ℕ → List (List ℕ)
names_of t f = output_names (scope_at t f).template

-- an output of this name of the scope has the value, or its condition is false
abbrev pub IsOffered : Table → Later → ℕ → List ℕ → Entry → Type 0
IsOffered t l f x (entry.Value v) =
    (plain_now t l (offered (position_of t f) x) ≡ value (Some (bool true)))
    × (plain_now t l (output (position_of t f) x) ≡ value (Some (json v)))
IsOffered t l f x entry.Away = plain_now t l (offered (position_of t f) x) ≡ value (Some (bool false))
IsOffered t l f x entry.Missing = ⊥

abbrev pub reading_of : Table → ℕ → List ℕ → Reads (Option Json)
reading_of t f x = output_reading (whole_of t) (position_of t f) x

-- what is noted of an output: the line of its condition, and what it was told to be
pub record IsNoted (t : Table) (l : Later) (f : ℕ) (x : List ℕ) (n : Noted) : Type 0 where
  pub is_line : IsLineOf t f (offered (position_of t f) x) n.at
  pub is_offered : IsOffered t l f x n.entry

-- of each of these names
abbrev pub AreNoted : Table → Later → ℕ → List (List ℕ) → List Noted → Type 0
AreNoted t l f [] [] = Unit {0}
AreNoted t l f [] (n ∷ ns) = ⊥
AreNoted t l f (x ∷ xs) [] = ⊥
AreNoted t l f (x ∷ xs) (n ∷ ns) = IsNoted t l f x n × AreNoted t l f xs ns

-- an output of the scope waits for the state at the key
pub record WaitsForState (t : Table) (l : Later) (f : ℕ) (k : ResourceId) : Type 0 where
  pub name : List ℕ
  pub has : Has name (names_of t f)
  pub is_awaited : told_now t l (reading_of t f name) ≡ waits (state k)

-- it waits for the cell of the line
pub record WaitsForLine (t : Table) (l : Later) (f j : ℕ) : Type 0 where
  pub name : List ℕ
  pub has : Has name (names_of t f)
  pub listed : j < length (rows_in t)
  pub is_awaited : told_now t l (reading_of t f name) ≡ waits (row_at (rows_in t) j).cell

-- it has no value; the line is that of its condition
pub record HasNothing (t : Table) (l : Later) (f j : ℕ) : Type 0 where
  pub name : List ℕ
  pub has : Has name (names_of t f)
  pub is_line : IsLineOf t f (offered (position_of t f) name) j
  pub is_nothing : told_now t l (reading_of t f name) ≡ no_value

abbrev pub IsOffering : Table → Later → ℕ → Offering → Type 0
IsOffering t l f (Told ns) = AreNoted t l f (names_of t f) ns.items
IsOffering t l f (State k) = WaitsForState t l f k
IsOffering t l f (Line j) = WaitsForLine t l f j
IsOffering t l f (Nothing j) = HasNothing t l f j

-- what is told of one output
abbrev pub IsNoteOf : Table → Later → ℕ → List ℕ → Note → Type 0
IsNoteOf t l f x (note.Told n) = IsNoted t l f x n
IsNoteOf t l f x (note.Stopped o) = IsOffering t l f o

-- ---- what is kept

abbrev pub is_missing : Entry → Bool
is_missing entry.Missing = true
is_missing (entry.Value v) = false
is_missing entry.Away = false

-- an entry of a line that had none
abbrev pub with_entry : List Entry → ℕ → Entry → List Entry
with_entry es j e = if is_missing (entry_at es j) then slice_set es j e else es

pub record Keeps (j : ℕ) (e : Entry) (l m : Later) : Type 0 where
  pub entries : m.entries.items ≡ with_entry l.entries.items j e
  pub states : m.states.items ≡ l.states.items
  pub places : m.places ≡ l.places

-- the scope was left
pub record IsLeft (x : Planned) (p : Progress) (q : Position) : Type 0 where
  pub number : ℕ
  pub is_task : slice_get x.tasks number ≡ Some (leave q)
  pub are_done : (v : ℕ) → slice_get x.tasks v ≡ Some (leave q) → IsDone p v

-- an output and its condition are known
abbrev pub IsKept : Table → Later → ℕ → List ℕ → Type 0
IsKept t m f x =
    IsThere (known_now t m (offered (position_of t f) x)) × IsThere (known_now t m (output (position_of t f) x))

-- more is known of outputs: what was known stays, and is seen so once the scope was left
pub record Leaves (t : Table) (f : ℕ) (l m : Later) : Type 0 where
  pub fit : IsFit t l → IsFit t m
  pub states : m.states.items ≡ l.states.items
  pub grows : Grows (known_now t l) (known_now t m)
  pub seen : (x : Planned) (p : Progress) → x.deployment ≡ whole_of t → IsLeft x p (position_of t f)
      → IsSeen x p (known_now t l) → IsSeen x p (known_now t m)
  pub told : AreTold t l → AreTold t m
