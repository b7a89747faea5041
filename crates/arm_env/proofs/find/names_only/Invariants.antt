use Rattle.std.proofs.Common.{◌≡◌, drop}
use Rattle.arm_env.specs.Find.{names_only}
use Rattle.arm_env.proofs.find.names_only.Given as goal

abbrev pub invariant-loop-resource : goal.invariant-loop-resource
invariant-loop-resource l = names_only l.text l.key (drop l.resource-index l.names)
    ≡ names_only l.text l.key l.names
