-- What holds of a sheet while it is filled.
use Rattle.std.specs.Prelude.{◌≡◌, ◌⊎◌, ◌<◌, ◌≤◌, ◌^◌, List, length, Option, Some, None}
use Rattle.arm_value.specs.Json.{Json}
use Rattle.arm_value.specs.View.{json}
use Rattle.arm_ids.specs.declared.id.ResourceId.{ResourceId}
use Rattle.reading.specs.Knowledge.{absent, value, waits, told}
use Rattle.plan_cells.specs.Cells.{Cell, state}
use Rattle.plan_cells.specs.Known.{IsKnown, entry_told}
use Rattle.plan_cells.specs.Meaning.{Deployment, meaning}
use Rattle.plan_cells.specs.Start.{start}
use Rattle.plan_cells.specs.Children.{Has, NamesDiffer, roots, children}
use Rattle.plan_filling.specs.Rows.{Status, Value, Empty, Late, Row, row_at, status_of, table, AreDistinct}
use Rattle.plan_filling.specs.declared.sheet.Answer.{Answer}
use Rattle.plan_filling.specs.declared.sheet.Answer.TheVariants as answer

-- why a cell is late: it waits for the state at the key, or for a late cell
pub data IsLate (d : Deployment) (σ : Cell → Option Status) : Cell → ResourceId → Type 0 where
  here : (c : Cell) (k : ResourceId) → σ c ≡ Some (Late k) → told (table σ) (meaning d c) ≡ waits (state k)
      → IsLate d σ c k
  further : (c e : Cell) (k : ResourceId) → σ c ≡ Some (Late k) → told (table σ) (meaning d c) ≡ waits e
      → IsLate d σ e k → IsLate d σ c k

-- a cell is there by a value
abbrev pub IsOpenedBy : Deployment → (Cell → Option Status) → Cell → Type 0
IsOpenedBy d σ e = (c : Cell) × ((v : Json) × ((σ c ≡ Some (Value v)) × Has e (children d c v)))

abbrev pub IsListed : (Cell → Option Status) → Cell → Type 0
IsListed σ c = (s : Status) × (σ c ≡ Some s)

-- each value, and that there is none, is known at the start and is what is told; a late cell leads to a state; the
-- cells that are listed are those of the root and those that values open
pub record Good (d : Deployment) (σ : Cell → Option Status) : Type 0 where
  pub valued : (c : Cell) (v : Json) → σ c ≡ Some (Value v) → IsKnown (meaning d) start c (Some v)
  pub empty : (c : Cell) → σ c ≡ Some Empty → IsKnown (meaning d) start c None
  pub tells_value : (c : Cell) (v : Json) → σ c ≡ Some (Value v) → told (table σ) (meaning d c) ≡ value (Some v)
  pub tells_empty : (c : Cell) → σ c ≡ Some Empty → entry_told (told (table σ) (meaning d c)) ≡ absent
  pub late : (c : Cell) (k : ResourceId) → σ c ≡ Some (Late k) → IsLate d σ c k
  pub is_there : (c : Cell) (s : Status) → σ c ≡ Some s → Has c (roots d) ⊎ IsOpenedBy d σ c
  pub has_roots : (c : Cell) → Has c (roots d) → IsListed σ c
  pub has_opened : (c : Cell) → IsOpenedBy d σ c → IsListed σ c

pub record Sound (d : Deployment) (rows : List Row) : Type 0 where
  pub good : Good d (status_of rows)
  pub distinct : AreDistinct rows
  pub few : length rows ≤ 2 ^ 32
  pub names_differ : NamesDiffer d.template

-- what an answer says of what is told
abbrev pub Tells : Deployment → List Row → Cell → Answer → Type 0
Tells d rows c (answer.Value v) = told (table (status_of rows)) (meaning d c) ≡ value (Some (json v))
Tells d rows c answer.Empty = entry_told (told (table (status_of rows)) (meaning d c)) ≡ absent
Tells d rows c (answer.Waits j) =
    (j < length rows) × (told (table (status_of rows)) (meaning d c) ≡ waits (row_at rows j).cell)
Tells d rows c (answer.State k) = told (table (status_of rows)) (meaning d c) ≡ waits (state k)
