use Rattle.std.proofs.Common.{◌≡◌, ◌++◌}
use Rattle.arm_value.specs.Look.{fold}
use Rattle.plan_table.proofs.keys.push_folded.Given as goal

abbrev pub invariant-loop-c : goal.invariant-loop-c
invariant-loop-c l = l.key.items ≡ l.fn.key.items ++ fold l.yielded
