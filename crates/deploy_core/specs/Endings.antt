-- How a deployment has ended, by what is returned.
use Rattle.std.specs.Prelude.{◌≡◌, ◌<◌, ℕ, suc, false, List, [], ◌∷◌, length, Option, Some}
use Rattle.std.specs.Prelude.{None}
use Rattle.depend_graph.specs.Shape.{Shape, Needs, is_done}
use Rattle.plan_cells.specs.Known.{Table}
use Rattle.deploy_histories.specs.Planned.{Planned}
use Rattle.deploy_histories.specs.Events.{Progress, done_status}
use Rattle.deploy_histories.specs.Endings.{AtLeast}
use Rattle.deploy_histories.specs.Legal.{AllDone}
use Rattle.task_standings.specs.declared.standing.TaskFault.{TaskFault}
use Rattle.task_standings.specs.declared.standing.Failing.{Failing}
use Rattle.task_standings.specs.declared.standing.Failing.TheVariants as failing
use Rattle.task_standings.specs.Failures.{Tells, TellsFault, NeedsUndone}
use Rattle.task_standings.specs.Outputs.{AreOutputs, AreAllOutputs}
use Rattle.task_agenda.specs.declared.agenda.Agenda.{Agenda}
use Rattle.deploy_core.specs.declared.ending.Ending.{Ending}
use Rattle.deploy_core.specs.declared.ending.Ending.TheVariants.{Succeeded, Refused, Faulty, Circular}

module _ (x : Planned) (p : Progress) where
  -- each of these tasks needs the next, and the last the end; none of them is done
  abbrev pub NeedInTurn : ℕ → List ℕ → ℕ → Type 0
  NeedInTurn u [] end = NeedsUndone x p u end
  NeedInTurn u (v ∷ vs) end = NeedsUndone x p u v × NeedInTurn v vs end

  -- each of these tasks needs the next, and the last the first, which is the least
  abbrev pub IsCircular : List ℕ → Type 0
  IsCircular [] = ⊥
  IsCircular (u ∷ us) = NeedInTurn u us u × AtLeast x p u us

-- the ending is a true one: every task is done, and these are the outputs of the root; or this was the first answer
-- that refused; or the task needs nothing more, and this is its fault; or the tasks need each other in a circle
abbrev pub IsTrueEnding : Tells → Planned → Progress → Ending → Type 0
IsTrueEnding tells x p (Succeeded os) = AllDone x p × AreAllOutputs x p os.items
IsTrueEnding tells x p (Refused u code) = p.refusal ≡ Some (record { task = u; code = code })
IsTrueEnding tells x p (Faulty u said) = TellsFault tells x p u said
IsTrueEnding tells x p (Circular us) = IsCircular x p us.items

-- the refusal that has ended a deployment, where one has
abbrev pub IsRefusedEnding : Progress → Option Ending → Type 0
IsRefusedEnding p None = p.refusal ≡ None
IsRefusedEnding p (Some (Refused u code)) = p.refusal ≡ Some (record { task = u; code = code })
IsRefusedEnding p (Some (Succeeded os)) = ⊥
IsRefusedEnding p (Some (Faulty u said)) = ⊥
IsRefusedEnding p (Some (Circular us)) = ⊥

-- a need of a task that is not done
abbrev pub IsUndoneNeed : Agenda → ℕ → Failing → Type 0
IsUndoneNeed a u (failing.Faulty said) = ⊥
IsUndoneNeed a u (failing.Needs v) = Needs a.graph u v × (is_done a.graph v ≡ false)

-- a graph of needs of tasks that are not done, which has one of each of the first tasks that is not done
pub record HasTurns (x : Planned) (p : Progress) (tasks : ℕ) (g : Shape) : Type 0 where
  pub size : length g.needs ≡ length x.tasks
  pub none_done : (u : ℕ) → is_done g u ≡ false
  pub each : (u : ℕ) → u < tasks → done_status (p.status u) ≡ false → (v : ℕ) × Needs g u v
  pub are : (u v : ℕ) → Needs g u v → NeedsUndone x p u v

-- the task has a fault, or the graph has what it needs
abbrev pub IsTurn : Tells → Planned → Progress → ℕ → Shape → Option TaskFault → Type 0
IsTurn tells x p u g (Some said) = TellsFault tells x p u said
IsTurn tells x p u g None = HasTurns x p (suc u) g

-- a task has a fault, or the graph has what each task needs
abbrev pub AreTurns : Tells → Planned → Progress → Shape → Option (ℕ × TaskFault) → Type 0
AreTurns tells x p g (Some f) = TellsFault tells x p f.0 f.1
AreTurns tells x p g None = HasTurns x p (length x.tasks) g

-- each task is done, and these are the outputs of the root
abbrev pub HasOutputs : Planned → Table → Ending → Type 0
HasOutputs x t (Succeeded os) = AreOutputs x t os.items
HasOutputs x t (Refused u code) = ⊥
HasOutputs x t (Faulty u said) = ⊥
HasOutputs x t (Circular us) = ⊥
