use Rattle.std.proofs.Common.{◌+◌, length, drop, ap, sym, subst, arith}
use Rattle.foundation.proofs.Lists.{next_item}
use Rattle.program_parts.specs.Parts.{AreParts, IsOrderAt}
use Rattle.program_parts.proofs.ItemLemmas.{found_at, next_is}
use Rattle.program_parts.proofs.parts.parts_in.Goals as goal

pub loop-order-init : goal.loop-order-init
loop-order-init c = record {
  most = omega arith;
  count = ap length c.requires.empty;
  each = subst (AreParts c.args.form c.args.sources.now c.args.files.now) (sym c.requires.empty) tt;
}

pub loop-order-preserved : goal.loop-order-preserved
loop-order-preserved c = record {
  most = omega (arith, c.loop-order-test.true);
  count = omega (arith, c.in-Ok.ensures.more.1, c.loop-order.invariant.count);
  each = c.in-Ok.ensures.more.0;
}

pub with_part-requires-clause-parts : goal.with_part-requires-clause-parts
with_part-requires-clause-parts c = c.loop-order.invariant.each

pub with_part-requires-clause-order : goal.with_part-requires-clause-order
with_part-requires-clause-order c =
    let ss = c.args.sources.now in
    let rs = c.args.files.now in
    let i = c.loop-order.order-index in
    subst (λ n. IsOrderAt ss rs n c.order-item.result) (sym c.loop-order.invariant.count)
    (found_at (IsOrderAt ss rs) c.args.orders.now c.requires.orders.0 i c.order-item.result
    (next_is c.args.orders.now i c.order-item.result (drop (i + 1) c.args.orders.now)
    (next_item c.args.orders.now i c.order-item.result c.loop-order-test.true c.order-item.is)))

pub returns-clause-parts : goal.returns-clause-parts
returns-clause-parts c = (
  c.loop-order.invariant.each,
  omega (
    arith,
    c.loop-order-test.false,
    c.loop-order.invariant.most,
    c.loop-order.invariant.count,
    c.requires.orders.1,
  ),
)
