use Rattle.std.proofs.Common.{◌≡◌, drop, map}
use Rattle.arm_env.specs.Find.{output_named}
use Rattle.arm_env.specs.Sight.{declared_of}
use Rattle.arm_env.proofs.outputs.find_declared.Given as goal

abbrev pub invariant-loop-output : goal.invariant-loop-output
invariant-loop-output l = output_named l.name (map declared_of (drop l.output-index l.outputs))
    ≡ output_named l.name (map declared_of l.outputs)
