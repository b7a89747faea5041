use Rattle.std.proofs.Common.{◌+◌, ◌-◌, ◌*◌, ◌≤◌, length}
use Rattle.reading.specs.World.{Each}
use Rattle.plan_tasks.specs.Start.{IsTaskOf}
use Rattle.plan_tasks.proofs.ListLemmas.{CopiesLeft, ResourcesLeft}
use Rattle.plan_tasks.proofs.listing.+scopes.Given as goal

abbrev pub decreases-list_instance : goal.decreases-list_instance
decreases-list_instance l = 3 * (length l.table.now.frames.items - l.frame)

abbrev pub decreases-list_resource : goal.decreases-list_resource
decreases-list_resource l = 3 * (length l.table.now.frames.items - l.frame) + 1

abbrev pub decreases-list_scope : goal.decreases-list_scope
decreases-list_scope l = 3 * (length l.table.now.frames.items - l.frame) + 2

abbrev pub invariant-list_resource-copies : goal.invariant-list_resource-copies
invariant-list_resource-copies l = record {
  listed : CopiesLeft l.table l.frame l.resource l.initial.tasks.items l.tasks.items l.copy (l.count - l.copy);
  there : Each (IsTaskOf l.table) l.initial.tasks.items → Each (IsTaskOf l.table) l.tasks.items;
}

abbrev pub invariant-list_scope-resources : goal.invariant-list_scope-resources
invariant-list_scope-resources l = record {
  listed : ResourcesLeft l.table l.frame l.initial.tasks.items l.tasks.items l.resource;
  most : l.resource ≤ l.count;
  there : Each (IsTaskOf l.table) l.initial.tasks.items → Each (IsTaskOf l.table) l.tasks.items;
}
