use Rattle.std.proofs.Common.{◌≡◌, map, drop}
use Rattle.bicep_tree.specs.View as view
use Rattle.bicep_types.specs.Metadata.{bad_metadata}
use Rattle.bicep_types.proofs.metadata.bad_metadata.Given as goal

-- the rest decides
abbrev pub invariant-loop-statement : goal.invariant-loop-statement
invariant-loop-statement l =
    bad_metadata (map view.statement_of l.file)
    ≡ bad_metadata (map view.statement_of (drop l.statement-index l.file))
