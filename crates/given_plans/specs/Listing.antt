-- How far the needs of a plan were listed.
use Rattle.std.specs.Prelude.{◌≡◌, ◌⊎◌, ◌<◌, ℕ, true, List, Some, slice_get}
use Rattle.plan_cells.specs.Plan.{Need, IsListed}
use Rattle.plan_cells.specs.Tasks.{Task}
use Rattle.deploy_histories.specs.Planned.{Planned}
use Rattle.deploy_histories.specs.Readiness.{needs_first}

-- the pair comes before the pair of these numbers
abbrev pub IsBefore : ℕ → ℕ → ℕ → ℕ → Type 0
IsBefore u v i j = (i < u) ⊎ ((i ≡ u) × (j < v))

-- what is listed of two tasks is a need, and each need before the pair of these numbers is listed
pub record AreListed (x : Planned) (u v : ℕ) (ns : List Need) : Type 0 where
  pub are_needs : (i j : ℕ) (t w : Task) → slice_get x.tasks i ≡ Some t → slice_get x.tasks j ≡ Some w
      → IsListed (i, j) ns → needs_first x t w ≡ true
  pub are_all : (i j : ℕ) (t w : Task) → slice_get x.tasks i ≡ Some t → slice_get x.tasks j ≡ Some w
      → IsBefore u v i j → needs_first x t w ≡ true → IsListed (i, j) ns
