use Rattle.std.proofs.Common.{◌≡◌, take, map, true}
use Rattle.arm_env.specs.Held.{output_member}
use Rattle.arm_env.specs.Sight.{declared_of}
use Rattle.arm_env.specs.Answer.{gathered, so_far}
use Rattle.arm_env.proofs.outputs.look_at_each.Given as goal

abbrev pub invariant-loop-output : goal.invariant-loop-output
invariant-loop-output g l =
    gathered (λ _. true) (g.K.Entries.known l.entries)
    (map (λ x. output_member l.key (declared_of x)) (take l.output-index l.outputs))
    ≡ so_far l.complete true
