use Rattle.std.proofs.Common.{◌≡◌, ◌∷◌, ◌++◌, drop}
use Rattle.plan_table.proofs.frame.position_inside.Given as goal

abbrev pub invariant-loop-outer : goal.invariant-loop-outer
invariant-loop-outer l = l.position.items ++ drop l.outer-index l.around ≡ l.fn.instance ∷ l.around
