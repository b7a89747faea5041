use Rattle.std.proofs.Common.{◌≡◌, ◌++◌, List, drop, map}
use Rattle.reading.specs.World.{Each}
use Rattle.plan_cells.specs.Tasks.{delete}
use Rattle.plan_table.specs.declared.table.Table.{Table}
use Rattle.plan_table.specs.Opened.{Opened}
use Rattle.plan_assembly.specs.Plans.{task_in, IsTaskIn}
use Rattle.plan_assembly.proofs.listing.push_deletes.Given as goal

abbrev pub invariant-loop-key : goal.invariant-loop-key
invariant-loop-key l = record {
  listed : (os : List Opened) → map (task_in os) l.all.items ++ map delete (drop l.key-index l.keys)
      ≡ map (task_in os) l.initial.all.items ++ map delete l.keys;
  there : (t : Table) → Each (IsTaskIn t) l.initial.all.items → Each (IsTaskIn t) l.all.items;
}
