use Rattle.std.proofs.Common.{◌≡◌, ◌++◌, List, drop, map}
use Rattle.reading.specs.World.{Each}
use Rattle.plan_table.specs.declared.table.Table.{Table}
use Rattle.plan_table.specs.Opened.{Opened}
use Rattle.plan_tasks.specs.Start.{task_of, IsTaskOf}
use Rattle.plan_assembly.specs.Plans.{task_in, IsTaskIn}
use Rattle.plan_assembly.proofs.listing.push_tasks.Given as goal

abbrev pub invariant-loop-task : goal.invariant-loop-task
invariant-loop-task l = record {
  listed : (os : List Opened) → map (task_in os) l.all.items ++ map (task_of os) (drop l.task-index l.tasks)
      ≡ map (task_in os) l.initial.all.items ++ map (task_of os) l.tasks;
  there : (t : Table) → Each (IsTaskOf t) l.tasks → Each (IsTaskIn t) l.initial.all.items
      → Each (IsTaskIn t) l.all.items;
}
