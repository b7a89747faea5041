use Rattle.std.proofs.Common.{◌≡◌, ◌++◌, map, drop}
use Rattle.bicep_tree.specs.View as view
use Rattle.bicep_symbol_types.specs.Outputs as spec
use Rattle.bicep_symbol_types.proofs.outputs.output_types.Given as goal

-- the rest goes on from what is listed
abbrev pub invariant-loop-statement : goal.invariant-loop-statement
invariant-loop-statement l =
    l.types.items ++ spec.output_types (map view.statement_of (drop l.statement-index l.file))
    ≡ spec.output_types (map view.statement_of l.file)
