use Rattle.std.proofs.Common.{◌≡◌, ◌<◌, ◌≤◌, ℕ}
use Rattle.driver_fakes.specs.Stages.{stage_at}
use Rattle.driver_fakes.specs.declared.stage.Stage.TheVariants.{Done}
use Rattle.driver_fakes.proofs.readiness.first_undone.Given as goal

abbrev pub invariant-loop-task : goal.invariant-loop-task
invariant-loop-task l = (k : ℕ) → k < l.task → l.from ≤ k → stage_at l.stages k ≡ Done
