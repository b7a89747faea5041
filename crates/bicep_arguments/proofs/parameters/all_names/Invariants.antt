use Rattle.std.proofs.Common.{◌≡◌, ◌++◌, map, drop}
use Rattle.bicep_tree.specs.View as view
use Rattle.bicep_arguments.specs.Parameters as spec
use Rattle.bicep_arguments.proofs.parameters.all_names.Given as goal

-- the rest goes on from what is listed
abbrev pub invariant-loop-statement : goal.invariant-loop-statement
invariant-loop-statement l =
    l.names ++ spec.parameters_of (map view.statement_of (drop l.statement-index l.file))
    ≡ spec.parameters_of (map view.statement_of l.file)
