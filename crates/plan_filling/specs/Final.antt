-- What is known by a filled sheet.
use Rattle.std.specs.Prelude.{◌≡◌, ◌⊎◌, Option, Some, None}
use Rattle.arm_value.specs.Json.{Json}
use Rattle.arm_ids.specs.declared.id.ResourceId.{ResourceId}
use Rattle.reading.specs.Knowledge.{Known, absent, missing, waits, told}
use Rattle.plan_cells.specs.Cells.{Cell, offered, output, count, included, state}
use Rattle.plan_cells.specs.Known.{Table}
use Rattle.plan_cells.specs.Meaning.{Deployment, meaning}
use Rattle.plan_cells.specs.Start.{IsStart}
use Rattle.plan_filling.specs.Rows.{Status, Late, known_by}

-- an output whose condition is late is not listed: it is late too
abbrev pub by_condition : Option Status → Known Json
by_condition (Some (Late k)) = missing
by_condition _ = absent

-- a cell that is not listed is not there, but for a state, of which nothing is known
abbrev pub unlisted : (Cell → Option Status) → Cell → Known Json
unlisted σ (state k) = missing
unlisted σ (output p x) = by_condition (σ (offered p x))
unlisted σ _ = absent

abbrev pub or_unlisted : (Cell → Option Status) → Cell → Option Status → Known Json
or_unlisted σ c None = unlisted σ c
or_unlisted σ c (Some s) = known_by (Some s)

abbrev pub final : (Cell → Option Status) → Table
final σ c = or_unlisted σ c (σ c)

-- it decides which instances and scopes are there
abbrev pub IsGate : Cell → Type 0
IsGate (count p r) = Unit {0}
IsGate (included p s) = Unit {0}
IsGate _ = ⊥

abbrev pub AreGatesKnown : (Cell → Option Status) → Type 0
AreGatesKnown σ = (c : Cell) (k : ResourceId) → IsGate c → σ c ≡ Some (Late k) → ⊥

abbrev pub IsState : Cell → Type 0
IsState (state k) = Unit {0}
IsState _ = ⊥

-- why a cell stays missing: it waits for a state, or for a cell that does
pub data Leads (d : Deployment) (q : Table) : Cell → ResourceId → Type 0 where
  here : (c : Cell) (k : ResourceId) → told q (meaning d c) ≡ waits (state k) → Leads d q c k
  further : (c e : Cell) (k : ResourceId) → told q (meaning d c) ≡ waits e → Leads d q e k → Leads d q c k

-- the table of what is known at the start, and each other cell leads to a state
pub record IsFinal (d : Deployment) (q : Table) : Type 0 where
  pub is_start : IsStart d q
  pub late : (c : Cell) → q c ≡ missing → IsState c ⊎ ((k : ResourceId) × Leads d q c k)
