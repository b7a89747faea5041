use Rattle.std.proofs.Common.{drop}
use Rattle.reading.specs.World.{Each}
use Rattle.plan_numbers.specs.Numbers.{IsOfTable}
use Rattle.plan_numbers.proofs.checking.are_of_table.Given as goal

abbrev pub invariant-tasks : goal.invariant-tasks
invariant-tasks l = Each (IsOfTable l.table) (drop l.task-index l.tasks) → Each (IsOfTable l.table) l.tasks
