use Rattle.std.proofs.Common.{◌≡◌, drop}
use Rattle.bicep_arguments.specs.Arguments as spec
use Rattle.bicep_arguments.proofs.arguments.lacks_one.Given as goal

-- the rest decides
abbrev pub invariant-loop-name : goal.invariant-loop-name
invariant-loop-name l =
    spec.lacks_one l.given l.required ≡ spec.lacks_one l.given (drop l.name-index l.required)
