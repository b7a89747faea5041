-- The names of tasks.
use Rattle.std.specs.Prelude.{ℕ, List, ◌++◌, codes, Option, Some, None, option_map, slice_get}
use Rattle.deploy_cells.specs.Cells.{Position}
use Rattle.plan_cells.specs.Tasks.{Task, enter, leave, put, delete}
use Rattle.deploy_histories.specs.Planned.{Planned}
use Rattle.deploy_histories.specs.Outcome.{target}

module _ (titled : Planned → Position → List ℕ) (x : Planned) where
  -- the id of what a task puts or deletes, as it is spelled; or whether it enters or leaves a scope, and the position
  abbrev pub name_in : Option Task → Option (List ℕ)
  name_in None = None
  name_in (Some (enter q)) = Some (codes "enter " ++ titled x q)
  name_in (Some (put p s)) = option_map (λ a. a.id) (target x (put p s))
  name_in (Some (delete k)) = option_map (λ a. a.id) (target x (delete k))
  name_in (Some (leave q)) = Some (codes "leave " ++ titled x q)

  -- the name of the task of the number
  abbrev pub name_of : ℕ → Option (List ℕ)
  name_of u = name_in (slice_get x.tasks u)
