use Rattle.std.proofs.Common.{◌≡◌, drop, map}
use Rattle.arm_value.specs.Json.{row}
use Rattle.arm_value.specs.View.{json}
use Rattle.template_members.specs.Loops.{row_loops_fault}
use Rattle.template_members.proofs.loops.row_loops_fault.Given as goal

abbrev pub invariant-loop-i : goal.invariant-loop-i
invariant-loop-i l =
    row_loops_fault l.here l.place l.owner l.fn.names 0 (row (map json l.item-items))
    ≡ row_loops_fault l.here l.place l.owner l.taken l.i (row (map json (drop l.i l.item-items)))
