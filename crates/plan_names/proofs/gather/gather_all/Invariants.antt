use Rattle.std.proofs.Common.{◌≡◌, [], drop}
use Rattle.plan_sight.specs.Sites.{all_spelled}
use Rattle.plan_table.specs.Found.{scope_at}
use Rattle.plan_sight.specs.Ready.{told_in}
use Rattle.plan_names.specs.Named.{gathered}
use Rattle.plan_names.proofs.gather.gather_all.Given as goal

abbrev pub invariant-loop-number : goal.invariant-loop-number
invariant-loop-number l =
    gathered l.text l.keys.items (told_in l.table (all_spelled l.place (scope_at l.table l.frame).position l.number
    (drop l.number (scope_at l.table l.frame).resources)))
    ≡ gathered l.text [] (told_in l.table (all_spelled l.place (scope_at l.table l.frame).position 0
    (scope_at l.table l.frame).resources))
