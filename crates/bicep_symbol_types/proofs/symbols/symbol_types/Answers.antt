use Rattle.std.proofs.Common.{◌∙◌, ap, map}
use Rattle.bicep_declared.specs.View.{declared_tree}
use Rattle.bicep_typing.specs.Names.{listed}
use Rattle.bicep_symbol_types.specs.Along.{types_along}
use Rattle.bicep_symbol_types.proofs.AlongLemmas.{are_along, many_trees}
use Rattle.bicep_symbol_types.proofs.symbols.symbol_types.Goals as goal

pub returns : goal.returns
returns c =
    λ kinds many order.
    c.renew_all.ensures
    ∙ ap (types_along (map listed c.args.outputs.now) (map declared_tree c.args.declarations.now) c.args.order.now)
    c.in_ok-types.ensures
    ∙ are_along (map listed c.args.outputs.now) kinds (map declared_tree c.args.declarations.now) c.args.order.now
    (many_trees kinds c.args.declarations.now many) order
