use Rattle.std.proofs.Common.{◌≡◌, ◌++◌, drop}
use Rattle.plan_table.proofs.frame.push_loops.Given as goal

abbrev pub invariant-loop-looping : goal.invariant-loop-looping
invariant-loop-looping l = l.loops.items ++ drop l.looping-index l.around ≡ l.initial.loops.items ++ l.around
