use Rattle.std.proofs.Common.{◌≡◌, drop}
use Rattle.arm_env.specs.Loop.{index_named}
use Rattle.arm_env.proofs.loops.index_named.Given as goal

abbrev pub invariant-loop-looping : goal.invariant-loop-looping
invariant-loop-looping l = index_named l.name (drop l.looping-index l.loops)
    ≡ index_named l.name l.loops
