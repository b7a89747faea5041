use Rattle.std.proofs.Common.{◌≡◌, map, drop}
use Rattle.bicep_tree.specs.View as view
use Rattle.bicep_decorators.specs.Decorators.{bad_in_file}
use Rattle.bicep_decorators.proofs.nested.bad_decorator.Given as goal

-- the rest decides
abbrev pub invariant-loop-statement : goal.invariant-loop-statement
invariant-loop-statement l =
    bad_in_file (map view.statement_of l.file) ≡ bad_in_file (map view.statement_of (drop l.statement-index l.file))
