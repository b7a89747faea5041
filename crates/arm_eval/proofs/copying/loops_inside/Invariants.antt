use Rattle.std.proofs.Common.{◌≡◌, ◌∷◌, take}
use Rattle.arm_eval.proofs.copying.loops_inside.Given as goal

abbrev pub invariant-loop-looping : goal.invariant-loop-looping
invariant-loop-looping l = l.inside.items ≡ l.fn.nearest ∷ take l.looping-index l.loops
