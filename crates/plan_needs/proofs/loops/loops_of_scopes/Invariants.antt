use Rattle.std.proofs.Common.{◌≡◌, ◌++◌, map, drop}
use Rattle.plan_table.specs.Opened.{opened_of}
use Rattle.plan_needs.specs.Needs.{scope_loops}
use Rattle.plan_needs.proofs.loops.loops_of_scopes.Given as goal

abbrev pub invariant-loop-frame : goal.invariant-loop-frame
invariant-loop-frame l = l.all.items ++ map scope_loops (map opened_of (drop l.frame-index l.frames))
    ≡ map scope_loops (map opened_of l.frames)
