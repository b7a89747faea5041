use Rattle.plan_needs.proofs.ScopeLemmas.{AsksLeft}
use Rattle.plan_needs.proofs.tasks.asks_of_tasks.Given as goal

abbrev pub invariant-tasks : goal.invariant-tasks
invariant-tasks l = AsksLeft l.table l.tasks l.values l.all.items l.number
