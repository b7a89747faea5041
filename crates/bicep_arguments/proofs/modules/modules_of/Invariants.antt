use Rattle.std.proofs.Common.{◌≡◌, ◌++◌, map, drop}
use Rattle.bicep_tree.specs.View as view
use Rattle.bicep_arguments.specs.Arguments as spec
use Rattle.bicep_arguments.specs.View.{module_tree}
use Rattle.bicep_arguments.proofs.modules.modules_of.Given as goal

-- the rest goes on from what is listed
abbrev pub invariant-loop-statement : goal.invariant-loop-statement
invariant-loop-statement l =
    map module_tree l.modules.items ++ spec.modules_of (map view.statement_of (drop l.statement-index l.file))
    ≡ spec.modules_of (map view.statement_of l.file)
