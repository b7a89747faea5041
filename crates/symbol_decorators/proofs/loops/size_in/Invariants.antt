use Rattle.std.proofs.Common.{◌≡◌, map, drop}
use Rattle.bicep_tree.specs.Tree as tree
use Rattle.bicep_tree.specs.View as view
use Rattle.symbol_decorators.specs.Batches.{size_in}
use Rattle.symbol_decorators.proofs.loops.size_in.Given as goal

-- the rest decides
abbrev pub invariant-loop-decorator : goal.invariant-loop-decorator
invariant-loop-decorator l =
    size_in (tree.decorators (map view.decorator_of l.decorators))
    ≡ size_in (tree.decorators (map view.decorator_of (drop l.decorator-index l.decorators)))
