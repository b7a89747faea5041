-- Why a sheet is not filled further: there are more instances than a deployment may have.
use Rattle.std.specs.Prelude.{◌≡◌, ℕ, ◌+◌, ◌<◌, Bool, true, List, [], ◌∷◌, Some, if◌then◌else◌}
use Rattle.arm_value.specs.Json.{Json}
use Rattle.reading.specs.Knowledge.{value, told}
use Rattle.template_parts.specs.declared.limit.Which.{Which}
use Rattle.template_parts.specs.declared.limit.Which.TheVariants.{Count, Resources, Instances}
use Rattle.plan_cells.specs.Cells.{Position, Cell, count, copies}
use Rattle.plan_cells.specs.Same.{same_position}
use Rattle.plan_cells.specs.Meaning.{Deployment, meaning}
use Rattle.plan_filling.specs.Rows.{Status, Value, Row, status_of, table, IsUnfinished}
use Rattle.plan_filling.specs.Sound.{Sound}
use Rattle.plan_filling.specs.declared.sheet.Halt.{Halt}
use Rattle.plan_filling.specs.declared.sheet.Halt.TheVariants.{Limit, OutOfMemory}

-- a test of scopes, by their positions
abbrev pub Scopes : Type 0
Scopes = Position → Bool

-- every scope
abbrev pub everywhere : Scopes
everywhere p = true

-- how many instances a row lists in the scopes that pass the test: a count that has a value lists as many
abbrev pub listed_by : Scopes → Status → Cell → ℕ
listed_by f (Value v) (count p r) = if f p then copies (Some v) else 0
listed_by f _ _ = 0

-- how many instances these scopes have so far
abbrev pub instances_in : Scopes → List Row → ℕ
instances_in f [] = 0
instances_in f (r ∷ rs) = listed_by f r.status r.cell + instances_in f rs

-- a count of a scope that lists more instances: how many the scope has so far, how many all scopes have, and how many
-- these are
pub record Tally : Type 0 where
  pub of_scope : ℕ
  pub of_all : ℕ
  pub more : ℕ

-- with these a quantity has a number that is beyond its limit: one count lists more than 800, or one scope has more
-- than 800, or all scopes together have more than 2,000, for which the number is always 2,001
abbrev pub IsBeyond : Tally → Which → ℕ → Type 0
IsBeyond t Count n = (800 < n) × (n ≡ t.more)
IsBeyond t Resources n = (800 < n) × (n ≡ t.of_scope + t.more)
IsBeyond t Instances n = (2000 < t.of_all + t.more) × (n ≡ 2001)
IsBeyond t _ n = ⊥

-- the count of a scope lists so many instances more than the rows do
abbrev pub tally_of : List Row → Position → ℕ → Tally
tally_of rows p n = record {
  of_scope = instances_in (same_position p) rows;
  of_all = instances_in everywhere rows;
  more = n;
}

-- why a cell of a sheet does not get the value
abbrev pub IsHalt : List Row → Cell → Json → Halt → Type 0
IsHalt rows c v OutOfMemory = Unit {0}
IsHalt rows (count p r) v (Limit w n) = IsBeyond (tally_of rows p (copies (Some v))) w n
IsHalt rows _ v (Limit w n) = ⊥

-- a quantity is beyond its limit: in a sheet that was filled so far, a count that is not finished is told to have a
-- value, and with the instances that this lists there are too many
pub record IsOverrun (d : Deployment) (w : Which) (n : ℕ) : Type 0 where
  pub rows : List Row
  pub is_sound : Sound d rows
  pub position : Position
  pub resource : ℕ
  pub status : Status
  pub has : status_of rows (count position resource) ≡ Some status
  pub is_unfinished : IsUnfinished status
  pub number : Json
  pub is_told : told (table (status_of rows)) (meaning d (count position resource)) ≡ value (Some number)
  pub is_beyond : IsBeyond (tally_of rows position (copies (Some number))) w n

-- why the filling of a sheet of the deployment ended
abbrev pub IsHalted : Deployment → Halt → Type 0
IsHalted d (Limit w n) = IsOverrun d w n
IsHalted d OutOfMemory = Unit {0}
