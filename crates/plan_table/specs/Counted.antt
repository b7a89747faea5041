-- The numbers of instances that a table keeps: those that its lines list.
use Rattle.std.specs.Prelude.{◌≡◌, ℕ, ◌+◌, ◌<◌, ◌≤◌, nat_eq, Bool, true, List, [], ◌∷◌, length, slice_index_or, Some}
use Rattle.std.specs.Prelude.{if◌then◌else◌}
use Rattle.arm_value.specs.View.{json}
use Rattle.plan_filling.specs.Cells.{copies}
use Rattle.plan_filling.specs.Limits.{Tally, IsBeyond}
use Rattle.plan_filling.specs.declared.sheet.Halt.{Halt}
use Rattle.plan_filling.specs.declared.sheet.Halt.TheVariants as halt
use Rattle.plan_table.specs.declared.line.Line.{Line}
use Rattle.plan_table.specs.declared.line.Spot.{Spot}
use Rattle.plan_table.specs.declared.line.Spot.TheVariants.{Count}
use Rattle.plan_table.specs.declared.line.State.{State}
use Rattle.plan_table.specs.declared.line.State.TheVariants as how
use Rattle.plan_table.specs.declared.table.Table.{Table}
use Rattle.plan_table.specs.Opened.{Opened}
use Rattle.plan_table.specs.Whole.{scopes_of}

-- how many instances a line lists in the scopes whose numbers pass the test
abbrev pub listed_by : (ℕ → Bool) → State → Spot → ℕ
listed_by f (how.Value v) (Count g r) = if f g then copies (Some (json v)) else 0
listed_by f _ _ = 0

-- how many the lines list
abbrev pub listed_in : (ℕ → Bool) → List Line → ℕ
listed_in f [] = 0
listed_in f (l ∷ ls) = listed_by f l.state l.spot + listed_in f ls

abbrev pub any_scope : ℕ → Bool
any_scope g = true

-- how many instances each scope has, and how many all scopes have
pub record Numbers : Type 0 where
  pub of_scopes : List ℕ
  pub of_all : ℕ

abbrev pub number_at : Numbers → ℕ → ℕ
number_at n f = slice_index_or n.of_scopes f 0

-- the numbers are those of the lines, and are within the limits
pub record AreNumbers (os : List Opened) (ls : List Line) (n : Numbers) : Type 0 where
  pub long : length n.of_scopes ≡ length os
  pub each : (f : ℕ) → f < length os → number_at n f ≡ listed_in (nat_eq f) ls
  pub few : (f : ℕ) → f < length os → number_at n f ≤ 800
  pub all : n.of_all ≡ listed_in any_scope ls
  pub within : n.of_all ≤ 2000

abbrev pub numbers_of : Table → Numbers
numbers_of t = record { of_scopes = t.counts.items; of_all = t.instances }

abbrev pub IsCounted : Table → Type 0
IsCounted t = AreNumbers (scopes_of t) t.lines.items (numbers_of t)

-- why so many instances more are not counted
abbrev pub Exceeds : Tally → Halt → Type 0
Exceeds t (halt.Limit w n) = IsBeyond t w n
Exceeds t halt.OutOfMemory = ⊥
