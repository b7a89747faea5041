-- The place of a scope, and the name that it has.
use Rattle.std.specs.Prelude.{◌≡◌, ℕ, Option, Some, None, Result, Ok, Err}
use Rattle.arm_ids.specs.declared.id.Place.{Place}
use Rattle.deploy_cells.specs.Cells.{Step, count}
use Rattle.plan_table.specs.declared.table.Table.{Table}
use Rattle.plan_table.specs.Found.{scope_at, IsLineOf, Counts, state_at}
use Rattle.plan_sight.specs.declared.lack.Lack.{Lack}
use Rattle.plan_sight.specs.declared.lack.Lack.TheVariants as lack

-- the place, or that there is none
abbrev pub Forms : Option Place → Result Place Lack → Type 0
Forms o (Ok p) = o ≡ Some p
Forms o (Err lack.NotThere) = ⊥
Forms o (Err lack.NoValue) = o ≡ None
Forms o (Err (lack.Line j)) = ⊥
Forms o (Err (lack.State k)) = ⊥
Forms o (Err lack.OutOfMemory) = Unit {0}

-- some line has a count that lists the instance, so its name is listed
abbrev pub IsNamed : Table → ℕ → Step → Type 0
IsNamed t f s =
    ((j : ℕ) → IsLineOf t f (count (scope_at t f).position s.resource) j → Counts s.copy (state_at t j) → ⊥) → ⊥
