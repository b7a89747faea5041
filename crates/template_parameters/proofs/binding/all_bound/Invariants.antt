use Rattle.std.proofs.Common.{◌≡◌, ◌++◌, drop, map}
use Rattle.template_parameters.specs.Binding.{bound, bound_view}
use Rattle.template_parameters.proofs.binding.all_bound.Given as goal

abbrev pub invariant-loop-parameter : goal.invariant-loop-parameter
invariant-loop-parameter l =
    bound l.given l.parameters ≡ map bound_view l.found ++ bound l.given (drop l.parameter-index l.parameters)
