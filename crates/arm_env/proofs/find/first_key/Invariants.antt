use Rattle.std.proofs.Common.{◌≡◌, drop, map}
use Rattle.arm_env.specs.Find.{first_key}
use Rattle.arm_env.specs.Known.{key_of}
use Rattle.arm_env.proofs.find.first_key.Given as goal

abbrev pub invariant-loop-nested : goal.invariant-loop-nested
invariant-loop-nested l = first_key l.text (map key_of (drop l.nested-index l.modules))
    ≡ first_key l.text (map key_of l.modules)
