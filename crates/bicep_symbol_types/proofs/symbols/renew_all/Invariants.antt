use Rattle.std.proofs.Common.{◌≡◌, map, drop}
use Rattle.bicep_declared.specs.View.{declared_tree}
use Rattle.bicep_typing.specs.Names.{listed}
use Rattle.bicep_symbol_types.specs.Along.{types_along}
use Rattle.bicep_symbol_types.proofs.symbols.renew_all.Given as goal

-- the rest goes on from what is found
abbrev pub invariant-loop-number : goal.invariant-loop-number
invariant-loop-number l =
    types_along (map listed l.outputs) (map declared_tree l.declarations) (drop l.number-index l.order)
    l.found.items
    ≡ types_along (map listed l.outputs) (map declared_tree l.declarations) l.order l.fn.types.items
