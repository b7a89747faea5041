use Rattle.std.proofs.Common.{◌≡◌, map, drop}
use Rattle.bicep_tree.specs.View as view
use Rattle.bicep_type_texts.specs.Files as spec
use Rattle.bicep_type_texts.proofs.files.bad_type.Given as goal

-- the rest decides
abbrev pub invariant-loop-statement : goal.invariant-loop-statement
invariant-loop-statement l =
    spec.bad_type (map view.statement_of l.file)
    ≡ spec.bad_type (map view.statement_of (drop l.statement-index l.file))
