use Rattle.std.proofs.Common.{◌≡◌, drop}
use Rattle.template_parameters.specs.Binding.{is_declared}
use Rattle.template_parameters.proofs.binding.is_declared.Given as goal

abbrev pub invariant-loop-parameter : goal.invariant-loop-parameter
invariant-loop-parameter l = is_declared l.parameters l.name ≡ is_declared (drop l.parameter-index l.parameters) l.name
