use Rattle.std.proofs.Common.{◌≡◌, map, drop}
use Rattle.bicep_tree.specs.View.{statement_of}
use Rattle.bicep_type_faults.specs.Parameters as spec
use Rattle.bicep_type_faults.proofs.parameters.parameter_type.Given as goal

-- the rest decides
abbrev pub invariant-loop-statement : goal.invariant-loop-statement
invariant-loop-statement l =
    spec.parameter_type l.name (map statement_of l.file)
    ≡ spec.parameter_type l.name (map statement_of (drop l.statement-index l.file))
