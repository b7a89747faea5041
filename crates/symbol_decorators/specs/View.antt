-- The trees that values of the code represent.
use Rattle.std.specs.Prelude.{map}
use Rattle.bicep_tree.specs.Tree.{DecoratorTrees, decorators}
use Rattle.bicep_tree.specs.View.{decorator_of}
use Rattle.symbol_decorators.specs.declared.listing.Decorated.{Decorated}

abbrev pub decorators_at : Decorated → DecoratorTrees
decorators_at x = decorators (map decorator_of x.decorators.now)
