use Rattle.std.proofs.Common.{◌≡◌, drop}
use Rattle.arm_value.specs.Look.{fold}
use Rattle.arm_env.specs.Known.{output_with}
use Rattle.arm_env.proofs.listed.find_output.Given as goal

abbrev pub invariant-loop-output : goal.invariant-loop-output
invariant-loop-output l = output_with (fold l.name) (drop l.output-index l.outputs)
    ≡ output_with (fold l.name) l.outputs
