use Rattle.std.proofs.Common.{◌≡◌, ◌++◌, map, drop}
use Rattle.template_parts.specs.declared.parameter.Parameter.{Parameter}
use Rattle.argument_faults.proofs.arguments.parameter_names.Given as goal

abbrev pub invariant-loop-parameter : goal.invariant-loop-parameter
invariant-loop-parameter l =
    l.names ++ map (λ (p : Parameter). p.name) (drop l.parameter-index l.template.parameters)
    ≡ map (λ (p : Parameter). p.name) l.template.parameters
