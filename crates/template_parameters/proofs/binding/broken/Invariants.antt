use Rattle.std.proofs.Common.{◌≡◌, drop}
use Rattle.template_parameters.specs.Binding.{broken}
use Rattle.template_parameters.proofs.binding.broken.Given as goal

abbrev pub invariant-loop-parameter : goal.invariant-loop-parameter
invariant-loop-parameter l =
    broken l.breach l.given l.parameters ≡ broken l.breach l.given (drop l.parameter-index l.parameters)
