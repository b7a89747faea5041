use Rattle.std.proofs.Common.{◌≡◌, map, drop}
use Rattle.bicep_tree.specs.View as view
use Rattle.bicep_declared.specs.Sites as spec
use Rattle.bicep_declared.specs.View.{site_tree}
use Rattle.bicep_declared.proofs.sites.sites.Given as goal

-- the rest goes on from what is listed
abbrev pub invariant-loop-statement : goal.invariant-loop-statement
invariant-loop-statement l =
    spec.declarations_of (map view.statement_of l.file)
    ≡ spec.with_statements (map view.statement_of (drop l.statement-index l.file)) (map site_tree l.out.items)
