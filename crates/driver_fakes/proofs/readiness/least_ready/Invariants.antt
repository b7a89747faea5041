use Rattle.std.proofs.Common.{◌≡◌, ◌<◌, ◌≤◌, ℕ, false}
use Rattle.driver_fakes.specs.Needs.{needs_at}
use Rattle.driver_fakes.specs.Stages.{is_ready_at}
use Rattle.driver_fakes.proofs.readiness.least_ready.Given as goal

abbrev pub invariant-loop-task : goal.invariant-loop-task
invariant-loop-task l = (k : ℕ) → k < l.task → l.from ≤ k → is_ready_at l.stages (needs_at l.needs k) k ≡ false
