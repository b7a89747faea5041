use Rattle.plan_tasks.proofs.KeyLemmas.{KeysLeft}
use Rattle.plan_tasks.proofs.keys.list_keys.Given as goal

abbrev pub invariant-tasks : goal.invariant-tasks
invariant-tasks l = KeysLeft l.table l.tasks l.task-index l.keys.items
