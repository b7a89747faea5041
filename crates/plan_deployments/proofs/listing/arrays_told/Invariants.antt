use Rattle.std.proofs.Common.{◌≡◌, ◌≤◌, drop}
use Rattle.arm_value.specs.Json.{items_nesting}
use Rattle.deploy_cells.specs.Listing.{all_named}
use Rattle.plan_cells.specs.Resources.{nested_from}
use Rattle.plan_table.specs.Found.{scope_at}
use Rattle.plan_sight.specs.Ready.{told_in}
use Rattle.plan_deployments.specs.Items as items
use Rattle.plan_deployments.proofs.ListLemmas.{arrays_after, rest}
use Rattle.plan_deployments.proofs.listing.arrays_told.Given as goal

abbrev pub invariant-loop-number : goal.invariant-loop-number
invariant-loop-number l =
    (arrays_after l.arrays (told_in l.table (rest (scope_at l.table l.frame).position l.number
    (drop l.number (scope_at l.table l.frame).resources)))
    ≡ items.arrays_told (told_in l.table (all_named (scope_at l.table l.frame).position
    (nested_from 0 (scope_at l.table l.frame).resources))))
    × (items_nesting l.arrays ≤ 2)
