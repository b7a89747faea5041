use Rattle.std.proofs.Common.{◌≡◌, map, drop, take}
use Rattle.bicep_tree.specs.Tree as tree
use Rattle.bicep_tree.specs.View as view
use Rattle.bicep_decorators.specs.Decorators.{bad_at, bad_from, decorator_name}
use Rattle.bicep_decorators.proofs.nested.bad_at.Given as goal

-- the rest decides, with the names so far
abbrev pub invariant-loop-index : goal.invariant-loop-index
invariant-loop-index l =
    bad_at l.place (tree.decorators (map view.decorator_of l.decorators))
    ≡ bad_from l.place (map (λ d. decorator_name (view.decorator_of d)) (take l.index l.decorators))
    (tree.decorators (map view.decorator_of (drop l.index l.decorators)))
