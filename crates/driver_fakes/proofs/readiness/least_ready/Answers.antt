use Rattle.std.proofs.Common.{◌≡◌, ◌≤◌, ◌∙◌, sym, false}
use borrow.Author.Count.{below_more}
use Rattle.driver_fakes.specs.Needs.{needs_at}
use Rattle.driver_fakes.specs.Stages.{is_ready_at}
use Rattle.driver_fakes.proofs.readiness.least_ready.Goals as goal

pub loop-task-preserved : goal.loop-task-preserved
loop-task-preserved c =
    below_more
    (λ k. c.args.from ≤ k → is_ready_at c.args.stages.now (needs_at c.args.needs.now k) k ≡ false)
    c.loop-task.task c.loop-task.invariant (λ _. sym c.is_ready.ensures ∙ c.if-is_ready.false)
