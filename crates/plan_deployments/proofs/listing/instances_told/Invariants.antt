use Rattle.std.proofs.Common.{◌≡◌, ◌-◌, ◌≤◌}
use Rattle.arm_value.specs.Json.{items_nesting}
use Rattle.deploy_cells.specs.Listing.{instances_named}
use Rattle.plan_table.specs.Found.{scope_at}
use Rattle.plan_sight.specs.Ready.{told_in}
use Rattle.plan_deployments.specs.Items.{items_told}
use Rattle.plan_deployments.proofs.ItemLemmas.{items_after}
use Rattle.plan_deployments.proofs.listing.instances_told.Given as goal

abbrev pub invariant-loop-copy : goal.invariant-loop-copy
invariant-loop-copy l =
    (items_after l.items (told_in l.table (instances_named (scope_at l.table l.frame).position l.number l.copy
    (l.count - l.copy)))
    ≡ items_told (told_in l.table (instances_named (scope_at l.table l.frame).position l.number 0 l.count)))
    × (items_nesting l.items ≤ 1)
