use Rattle.std.proofs.Common.{map, subst}
use Rattle.bicep_symbols.specs.declared.entry.Entry.{Entry}
use Rattle.bicep_declared.specs.View.{declared_tree}
use Rattle.bicep_numbers.specs.Links.{links}
use Rattle.bicep_numbers.specs.Orders.{AreSorted}
use Rattle.bicep_types.proofs.FileLemmas.{no_circle_in, order_in}
use Rattle.bicep_types.proofs.files.types_of.Goals as goal

pub types_along-requires-clause-order : goal.types_along-requires-clause-order
types_along-requires-clause-order c =
    order_in c.args.file.now c.as_slice.result.now c.as_slice-declarations.result.now c.in-Order.order
    c.as_slice-in-Order.result.now c.as_slice.ensures.value c.as_slice-declarations.ensures.value
    c.as_slice-in-Order.ensures.value
    (subst (AreSorted (links (map (λ (e : Entry). e.kind) c.as_slice.result.now)
    (map declared_tree c.as_slice-declarations.result.now))) c.in-Order.is c.in_ok-order.ensures)

pub unreachable-requires : goal.unreachable-requires
unreachable-requires c =
    no_circle_in c.args.file.now c.as_slice.result.now c.as_slice-declarations.result.now c.in-Circle.field-0
    c.as_slice.ensures.value c.as_slice-declarations.ensures.value
    (subst (AreSorted (links (map (λ (e : Entry). e.kind) c.as_slice.result.now)
    (map declared_tree c.as_slice-declarations.result.now))) c.in-Circle.is c.in_ok-order.ensures) c.requires.free
