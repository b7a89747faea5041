use Rattle.std.proofs.Common.{◌≡◌, drop}
use Rattle.arm_env.specs.Loop.{main_index}
use Rattle.arm_env.proofs.loops.main_index.Given as goal

abbrev pub invariant-loop-looping : goal.invariant-loop-looping
invariant-loop-looping l = main_index (drop l.looping-index l.loops) ≡ main_index l.loops
