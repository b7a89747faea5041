-- How a board begins.
use Rattle.std.specs.Prelude.{◌≡◌, ◌<◌, ◌↔◌, ℕ, Bool, true, false, List, [], ◌∷◌, ◌++◌, length, map, replicate, Some}
use Rattle.std.specs.Prelude.{slice_get}
use Rattle.depend_graph.specs.Shape.{Needs}
use Rattle.plan_cells.specs.Plan.{Need, IsListed}
use Rattle.plan_cells.specs.Tasks.{Task}
use Rattle.deploy_histories.specs.Planned.{Planned}
use Rattle.deploy_histories.specs.Readiness.{needs_first}
use Rattle.task_agenda.specs.declared.agenda.Agenda.{Agenda}
use Rattle.task_agenda.specs.Agendas.{count, is_listed, IsSeenTo, Keeps}
use Rattle.deploy_core.specs.declared.opening.Parts.{Parts}
use Rattle.board_dealing.specs.Kept.{enters_or_leaves}

-- two tasks are listed exactly where the one needs the other by what is known at the start
abbrev pub AreStartNeeds : Planned → List Need → Type 0
AreStartNeeds x ns = (i j : ℕ) (u v : Task) → slice_get x.tasks i ≡ Some u → slice_get x.tasks j ≡ Some v
    → ((needs_first x u v ≡ true) ↔ IsListed (i, j) ns)

-- the agenda has these kinds and of these needs those that are of two tasks; no task is done, and none is listed
pub record HasNeeds (a : Agenda) (kinds : List Bool) (ns : List Need) : Type 0 where
  pub kinds_are : a.kinds.items ≡ kinds
  pub none_done : a.graph.done ≡ replicate (length kinds) false
  pub none_listed : (u : ℕ) → is_listed a u ≡ false
  pub has_needs : (u v : ℕ) → u < length kinds → v < length kinds → IsListed (u, v) ns → Needs a.graph u v
  pub no_others : (u v : ℕ) → Needs a.graph u v
      → (u < length kinds) × ((v < length kinds) × IsListed (u, v) ns)

-- once a pair is gone through, it is one of the needs
abbrev pub IsNeedAdded : Agenda → Agenda → Need → Type 0
IsNeedAdded old new n = (kinds : List Bool) (ns : List Need) → HasNeeds old kinds ns → HasNeeds new kinds (ns ++ n ∷ [])

-- the agenda has these kinds and these needs, and every task is listed that needs nothing
pub record IsFilled (kinds : List Bool) (ns : List Need) (a : Agenda) : Type 0 where
  pub before : Agenda
  pub has_needs : HasNeeds before kinds ns
  pub keeps : Keeps before a
  pub seen_to : (u : ℕ) → u < count a → IsSeenTo a u

-- nothing has happened to the tasks, and the agenda is theirs
pub record IsFirst (x : Planned) (ns : List Need) (parts : Parts) : Type 0 where
  pub history : parts.history ≡ record { count = length x.tasks; events = [] }
  pub agenda : IsFilled (map enters_or_leaves x.tasks) ns parts.agenda
