use Rattle.std.proofs.Common.{◌≡◌, map, drop}
use Rattle.bicep_tree.specs.Tree as tree
use Rattle.bicep_tree.specs.View as view
use Rattle.bicep_members.specs.Parts as spec
use Rattle.bicep_members.proofs.resources.repeated_in_decorators.Given as goal

-- the rest decides
abbrev pub invariant-loop-decorator : goal.invariant-loop-decorator
invariant-loop-decorator l =
    spec.repeated_in_decorators (tree.decorators (map view.decorator_of l.decorators))
    ≡ spec.repeated_in_decorators (tree.decorators (map view.decorator_of (drop l.decorator-index l.decorators)))
