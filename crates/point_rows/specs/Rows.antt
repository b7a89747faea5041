-- The rows of a point: what is known of each cell by the table of the start and by what became known later.
use Rattle.std.specs.Prelude.{◌≡◌, ℕ, true, false, List, [], ◌∷◌, ◌++◌, map, length, slice_index_or, Option, Some, None}
use Rattle.arm_value.specs.Json.{bool}
use Rattle.arm_value.specs.View.{json}
use Rattle.arm_value.specs.declared.value.Value.{Value}
use Rattle.arm_ids.specs.declared.id.ResourceId.{ResourceId}
use Rattle.tag_places.specs.Places.{Tag, ArePlaces}
use Rattle.key_tags.specs.KeyCodes.{key_code}
use Rattle.reading.specs.Knowledge.{Told, told}
use Rattle.deploy_cells.specs.Cells.{Cell, state}
use Rattle.deploy_cells.specs.Guarded.{Reads}
use Rattle.plan_cells.specs.Known as known
use Rattle.plan_filling.specs.Rows as rows
use Rattle.plan_filling.specs.Rows.{Status, Row, status_of, table}
use Rattle.plan_table.specs.declared.line.Line.{Line}
use Rattle.plan_table.specs.declared.line.Spot.{Spot}
use Rattle.plan_table.specs.declared.line.Spot.TheVariants.{Parameter, Variable, Offered, Output, Count, Included}
use Rattle.plan_table.specs.declared.line.Spot.TheVariants.{Name, Deployments}
use Rattle.plan_table.specs.declared.line.State.{State}
use Rattle.plan_table.specs.declared.line.State.TheVariants as how
use Rattle.plan_table.specs.declared.table.Table.{Table}
use Rattle.plan_table.specs.Opened.{Opened}
use Rattle.plan_table.specs.Lines.{cell_of, status_in}
use Rattle.plan_table.specs.Whole.{scopes_of}
use Rattle.plan_sight.specs.declared.lack.Lack.{Lack}
use Rattle.plan_sight.specs.declared.lack.Lack.TheVariants as lack
use Rattle.point_rows.specs.declared.later.Entry.{Entry}
use Rattle.point_rows.specs.declared.later.Entry.TheVariants as entry
use Rattle.point_rows.specs.declared.later.StateAt.{StateAt}
use Rattle.point_rows.specs.declared.later.Later.{Later}

abbrev pub entry_at : List Entry → ℕ → Entry
entry_at es j = slice_index_or es j entry.Missing

-- a state that is known
abbrev pub status_told : Option Value → Status
status_told None = rows.Empty
status_told (Some v) = rows.Value (json v)

abbrev pub state_row : StateAt → Row
state_row s = record { cell = state s.key; status = status_told s.state }

-- a parameter or a variable: what it is at the start, or else what it became later
abbrev pub settled : State → Entry → Status
settled (how.Value v) e = rows.Value (json v)
settled how.Empty e = rows.Empty
settled how.New (entry.Value v) = rows.Value (json v)
settled how.Open (entry.Value v) = rows.Value (json v)
settled (how.Late k) (entry.Value v) = rows.Value (json v)
settled how.New entry.Away = rows.Empty
settled how.Open entry.Away = rows.Empty
settled (how.Late k) entry.Away = rows.Empty
settled _ _ = rows.New

-- the condition of an output, and the output: nothing is known of them until its scope was left
abbrev pub condition_status : Entry → Status
condition_status entry.Missing = rows.New
condition_status (entry.Value v) = rows.Value (bool true)
condition_status entry.Away = rows.Value (bool false)

abbrev pub output_status : Entry → Status
output_status entry.Missing = rows.New
output_status (entry.Value v) = rows.Value (json v)
output_status entry.Away = rows.Empty

abbrev pub given_rows : Cell → Cell → Entry → List Row
given_rows c o e = record { cell = c; status = condition_status e } ∷ record { cell = o; status = output_status e } ∷ []

-- the rows by a line: outputs and their conditions are those of scopes that were left alone
abbrev pub rows_by : List Opened → Spot → State → Entry → List Row
rows_by os (Parameter f n) x e = record { cell = cell_of os (Parameter f n); status = settled x e } ∷ []
rows_by os (Variable f n) x e = record { cell = cell_of os (Variable f n); status = settled x e } ∷ []
rows_by os (Offered f n) x e = given_rows (cell_of os (Offered f n)) (cell_of os (Output f n)) e
rows_by os (Output f n) x e = []
rows_by os (Count f r) x e = record { cell = cell_of os (Count f r); status = status_in x } ∷ []
rows_by os (Included f r i) x e = record { cell = cell_of os (Included f r i); status = status_in x } ∷ []
rows_by os (Name f r i) x e = record { cell = cell_of os (Name f r i); status = status_in x } ∷ []
rows_by os (Deployments f) x e = record { cell = cell_of os (Deployments f); status = status_in x } ∷ []

abbrev pub line_rows : List Opened → List Line → List Entry → List Row
line_rows os [] es = []
line_rows os (l ∷ ls) [] = rows_by os l.spot l.state entry.Missing ++ line_rows os ls []
line_rows os (l ∷ ls) (e ∷ es) = rows_by os l.spot l.state e ++ line_rows os ls es

-- all rows of a point
abbrev pub rows_now : Table → Later → List Row
rows_now t l = map state_row l.states.items ++ line_rows (scopes_of t) t.lines.items l.entries.items

-- what is known at the point
abbrev pub known_now : Table → Later → known.Table
known_now t l = table (status_of (rows_now t l))

abbrev pub told_now : {A : Type 0} → Table → Later → Reads A → Told Cell A
told_now t l r = told (known_now t l) r

-- the keys of states, as tags
abbrev pub state_tag : StateAt → Option Tag
state_tag s = Some (key_code s.key)

-- the places are those of the states
abbrev pub AreIndexed : Later → Type 0
AreIndexed l = ArePlaces l.places (map state_tag l.states.items)

-- there is an entry for each line, and the states are found by their places
pub record IsFit (t : Table) (l : Later) : Type 0 where
  pub entries : length l.entries.items ≡ length t.lines.items
  pub indexed : AreIndexed l

-- the first of these states at the key, if there is one
abbrev pub IsFoundState : List StateAt → ResourceId → Option StateAt → Type 0
IsFoundState ss k None = status_of (map state_row ss) (state k) ≡ None
IsFoundState ss k (Some s) = status_of (map state_row ss) (state k) ≡ Some (status_told s.state)

abbrev pub IsMissing : Lack → ResourceId → Type 0
IsMissing (lack.State k) l = k ≡ l
IsMissing lack.OutOfMemory l = Unit {0}
IsMissing _ l = ⊥

-- the line is that of a parameter or a variable
abbrev pub IsEntrySpot : Spot → Type 0
IsEntrySpot (Parameter f n) = Unit {0}
IsEntrySpot (Variable f n) = Unit {0}
IsEntrySpot _ = ⊥

-- a state more is known, and nothing else
pub record HasState (l : Later) (s : StateAt) (m : Later) : Type 0 where
  pub states : m.states.items ≡ l.states.items ++ s ∷ []
  pub entries : m.entries.items ≡ l.entries.items

-- the same is known
pub record HasSame (l m : Later) : Type 0 where
  pub states : m.states.items ≡ l.states.items
  pub entries : m.entries.items ≡ l.entries.items
