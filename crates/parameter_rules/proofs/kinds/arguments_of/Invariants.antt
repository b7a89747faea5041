use Rattle.std.proofs.Common.{◌≡◌, map, drop}
use Rattle.bicep_tree.specs.Tree as tree
use Rattle.bicep_tree.specs.View as view
use Rattle.parameter_rules.specs.Kinds.{arguments_of}
use Rattle.parameter_rules.proofs.kinds.arguments_of.Given as goal

-- the rest decides
abbrev pub invariant-loop-decorator : goal.invariant-loop-decorator
invariant-loop-decorator l =
    arguments_of l.kind (tree.decorators (map view.decorator_of l.decorators))
    ≡ arguments_of l.kind (tree.decorators (map view.decorator_of (drop l.decorator-index l.decorators)))
