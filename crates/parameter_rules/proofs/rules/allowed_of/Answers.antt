use Rattle.std.proofs.Common.{map, sym}
use Rattle.bicep_decorators.specs.declared.kind.DecoratorKind.TheVariants as k
use Rattle.bicep_tree.specs.Tree as tree
use Rattle.bicep_tree.specs.View as view
use Rattle.parameter_rules.proofs.NestLemmas.{arguments_nest}
use Rattle.parameter_rules.proofs.rules.allowed_of.Goals as goal

pub first_values-requires : goal.first_values-requires
first_values-requires c =
    arguments_nest k.Allowed (tree.decorators (map view.decorator_of c.args.decorators.now))
    (tree.trees (map view.tree_of c.in-Some.arguments.now)) (sym c.in-Some.ensures) c.requires
