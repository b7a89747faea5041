use Rattle.std.proofs.Common.{◌≡◌, drop}
use Rattle.template_parameters.specs.Binding.{missing}
use Rattle.template_parameters.proofs.binding.missing.Given as goal

abbrev pub invariant-loop-parameter : goal.invariant-loop-parameter
invariant-loop-parameter l = missing l.given l.parameters ≡ missing l.given (drop l.parameter-index l.parameters)
