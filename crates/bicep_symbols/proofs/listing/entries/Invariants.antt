use Rattle.std.proofs.Common.{◌≡◌, map, drop}
use Rattle.bicep_tree.specs.View as view
use Rattle.bicep_symbols.specs.Entries as spec
use Rattle.bicep_symbols.proofs.listing.entries.Given as goal

-- the rest goes on from what is listed
abbrev pub invariant-loop-statement : goal.invariant-loop-statement
invariant-loop-statement l =
    spec.symbols_of l.modules (map view.statement_of l.file)
    ≡ spec.with_statements l.files (map view.statement_of (drop l.statement-index l.file))
    (map spec.symbol_of l.out.items)
