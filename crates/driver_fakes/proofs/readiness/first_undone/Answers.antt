use Rattle.std.proofs.Common.{◌≡◌, ◌≤◌, ◌∙◌, sym}
use borrow.Author.Count.{below_more}
use Rattle.driver_fakes.specs.Stages.{stage_at}
use Rattle.driver_fakes.specs.declared.stage.Stage.TheVariants.{Done}
use Rattle.driver_fakes.proofs.StageLemmas.{done_is}
use Rattle.driver_fakes.proofs.readiness.first_undone.Goals as goal

pub loop-task-preserved : goal.loop-task-preserved
loop-task-preserved c =
    below_more (λ k. c.args.from ≤ k → stage_at c.args.stages.now k ≡ Done) c.loop-task.task c.loop-task.invariant
    (λ _. sym c.stage_at.ensures ∙ done_is c.stage_at.result (sym c.is_done.ensures ∙ c.if-not-is_done.false))
