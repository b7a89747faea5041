use Rattle.std.proofs.Common.{◌<◌, ℕ}
use Rattle.task_agenda.specs.Lists.{ListsMore, IsSeenTo}
use Rattle.task_agenda.proofs.lists.list_all.Given as goal

abbrev pub invariant-loop-task : goal.invariant-loop-task
invariant-loop-task l = record {
  more : ListsMore l.graph l.kinds l.initial.scopes l.initial.acts l.scopes l.acts;
  each : (u : ℕ) → u < l.task → IsSeenTo l.graph l.kinds l.scopes l.acts u;
}
