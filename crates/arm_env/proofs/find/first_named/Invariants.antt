use Rattle.std.proofs.Common.{◌≡◌, drop}
use Rattle.arm_env.specs.Find.{first_named}
use Rattle.arm_env.proofs.find.first_named.Given as goal

abbrev pub invariant-loop-resource : goal.invariant-loop-resource
invariant-loop-resource l = first_named l.text (drop l.resource-index l.names)
    ≡ first_named l.text l.names
