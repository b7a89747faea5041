-- A task that starts has all that it needs.
use Rattle.std.proofs.Common.{◌≡◌, ◌⊎◌, inl, inr, ℕ, Bool, true, false, List, Some, refl, ap, ◌∙◌, subst}
use Rattle.std.specs.Prelude.{slice_get}
use Rattle.std.proofs.lemmas.Bool.{or_left, or_right}
use Rattle.arm_value.specs.Json.{Json, null}
use Rattle.reading.specs.Knowledge.{value}
use Rattle.plan_cells.specs.Plan.{Need, IsListed, AreNeeds}
use Rattle.plan_cells.specs.Tasks as task
use Rattle.plan_cells.specs.Tasks.{Task}
use Rattle.deploy_histories.specs.Planned.{Planned}
use Rattle.deploy_histories.specs.Events.{Event, enter, begin, answer, back, leave, crash, Progress, IsDone}
use Rattle.deploy_histories.specs.Legal.{May, MayStart}
use Rattle.deploy_histories.specs.Readiness.{needs_first, is_yes, IsReadyWith}
use Rattle.deploy_histories.specs.Values.{needs_by_values}
use Rattle.program_histories.specs.Starts.{Starts}

-- the task that an event starts
pub record IsStarted (x : Planned) (p : Progress) (i : ℕ) : Type 0 where
  pub started : Task
  pub body : Json
  pub may : MayStart x p i started body

-- the event starts a task that may start
pub started_by : (x : Planned) (p : Progress) (e : Event) (i : ℕ) → May x p e → Starts i e → IsStarted x p i
started_by x p (enter u) i m s =
    subst (IsStarted x p) s (record { started = task.enter m.0; body = null; may = m.1 })
started_by x p (begin u worker body) i m s =
    subst (IsStarted x p) s (record { started = m.0; body = body; may = m.1.1 })
started_by x p (leave u) i m s =
    subst (IsStarted x p) s (record { started = task.leave m.0; body = null; may = m.1 })
started_by x p (answer u a) i m s = absurd s
started_by x p (back u) i m s = absurd s
started_by x p crash i m s = absurd s

module _ (x : Planned) (ns : List Need) (all : AreNeeds x.deployment x.known x.tasks ns) (i j : ℕ) (a b : Task)
    (first : slice_get x.tasks i ≡ Some a) (second : slice_get x.tasks j ≡ Some b) where
  -- a need that is listed was told at the start
  listed_first : IsListed (i, j) ns → needs_first x a b ≡ true
  listed_first l =
      let n = all i j a b first second in
      ap (λ r. is_yes r) (n.is_told ∙ ap (λ c. value c) (n.listed.1 l))

  pub done_first : (p : Progress) (t : Task) (body : Json) (k : MayStart x p i t body)
      → IsReadyWith x k.known p i a body → IsListed (i, j) ns ⊎ (needs_by_values x k.known a b ≡ true) → IsDone p j
  done_first p t body k r (inl l) =
      r.is_free.needs_done j b second
      (or_left (needs_first x a b) (needs_by_values x k.known a b) (listed_first l))
  done_first p t body k r (inr l) =
      r.is_free.needs_done j b second (or_right (needs_first x a b) (needs_by_values x k.known a b) l)
