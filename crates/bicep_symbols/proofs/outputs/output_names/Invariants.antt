use Rattle.std.proofs.Common.{◌≡◌, ◌++◌, map, drop, Bor}
use Rattle.bicep_tree.specs.declared.leaf.Name.{Name}
use Rattle.bicep_tree.specs.View as view
use Rattle.bicep_symbols.specs.Outputs.{named, outputs_of}
use Rattle.bicep_symbols.proofs.outputs.output_names.Given as goal

-- the rest goes on from what is listed
abbrev pub invariant-loop-statement : goal.invariant-loop-statement
invariant-loop-statement l =
    map (λ (n : Bor Name). named n.now) l.names.items
    ++ outputs_of (map view.statement_of (drop l.statement-index l.file))
    ≡ outputs_of (map view.statement_of l.file)
