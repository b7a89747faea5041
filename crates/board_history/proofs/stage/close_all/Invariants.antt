use Rattle.board_history.proofs.Keeping.{AreClosedTo}
use Rattle.board_history.proofs.stage.close_all.Given as goal

abbrev pub invariant-loop-task : goal.invariant-loop-task
invariant-loop-task l = AreClosedTo l.task l.initial.stages l.stages
