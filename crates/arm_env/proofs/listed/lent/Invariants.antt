use Rattle.std.proofs.Common.{◌≡◌, map, take}
use Rattle.arm_env.specs.Known.{declared}
use Rattle.arm_env.specs.Sight.{declared_of}
use Rattle.arm_env.proofs.listed.lent.Given as goal

abbrev pub invariant-loop-output : goal.invariant-loop-output
invariant-loop-output l = map declared_of l.list.items ≡ map declared (take l.output-index l.outputs)
