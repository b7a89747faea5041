use Rattle.std.proofs.Common.{◌≡◌, map, drop}
use Rattle.bicep_tree.specs.View as view
use Rattle.file_metadata.specs.Outputs as spec
use Rattle.symbol_decorators.specs.View.{decorators_at}
use Rattle.file_metadata.proofs.listing.output_decorators.Given as goal

-- the rest goes on from what is listed
abbrev pub invariant-loop-statement : goal.invariant-loop-statement
invariant-loop-statement l =
    spec.output_decorators (map view.statement_of l.file)
    ≡ spec.with_statements (map view.statement_of (drop l.statement-index l.file)) (map decorators_at l.out.items)
