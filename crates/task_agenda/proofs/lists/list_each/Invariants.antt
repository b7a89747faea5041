use Rattle.std.proofs.Common.{take}
use Rattle.task_agenda.proofs.ListLemmas.{AreSeenTo}
use Rattle.task_agenda.proofs.lists.list_each.Given as goal

abbrev pub invariant-loop-task : goal.invariant-loop-task
invariant-loop-task l = AreSeenTo l.graph l.kinds l.initial.scopes l.initial.acts l.scopes l.acts
    (take l.task-index l.tasks)
