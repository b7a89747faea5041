use Rattle.std.proofs.Common.{◌≡◌, ◌-◌, Some}
use Rattle.std.specs.Prelude.{slice_get}
use Rattle.plan_sight.specs.Resources as cells
use Rattle.plan_sight.specs.Sites.{instances_spelled}
use Rattle.plan_table.specs.Found.{scope_at}
use Rattle.plan_sight.specs.Ready.{told_in}
use Rattle.plan_names.specs.Named.{gathered}
use Rattle.plan_names.proofs.gather.gather_instances.Given as goal

abbrev pub invariant-loop-copy : goal.invariant-loop-copy
invariant-loop-copy l =
    (x : cells.Listed) → slice_get (scope_at l.table l.frame).resources l.number ≡ Some x
    → gathered l.asked.text.now l.keys.items (told_in l.table (instances_spelled l.asked.place.now
    (scope_at l.table l.frame).position l.number x.type l.copy (l.count - l.copy)))
    ≡ gathered l.asked.text.now l.fn.keys.items (told_in l.table (instances_spelled l.asked.place.now
    (scope_at l.table l.frame).position l.number x.type 0 l.count))
