use Rattle.std.proofs.Common.{◌≡◌, ◌++◌, drop}
use Rattle.plan_telling.proofs.register.position_again.Given as goal

abbrev pub invariant-loop-instance : goal.invariant-loop-instance
invariant-loop-instance l = l.again.items ++ drop l.instance-index l.position ≡ l.position
