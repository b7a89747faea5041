use Rattle.std.proofs.Common.{◌≡◌, ◌++◌, map, drop}
use Rattle.bicep_tree.specs.View as view
use Rattle.bicep_symbols.specs.Outputs as spec
use Rattle.resolved_program.specs.Programs.{output_text}
use Rattle.resolved_program.proofs.outputs.output_texts.Given as goal

-- the rest goes on from what is listed
abbrev pub invariant-loop-statement : goal.invariant-loop-statement
invariant-loop-statement l =
    l.names.items ++ map output_text (spec.outputs_of (map view.statement_of (drop l.statement-index l.file)))
    ≡ map output_text (spec.outputs_of (map view.statement_of l.file))
