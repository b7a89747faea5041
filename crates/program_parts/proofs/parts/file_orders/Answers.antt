use Rattle.std.proofs.Common.{length, ap, sym, subst, arith}
use Rattle.program_parts.specs.Parts.{AreOrders}
use Rattle.program_parts.proofs.parts.file_orders.Goals as goal

pub loop-init : goal.loop-init
loop-init c = record {
  most = omega arith;
  count = ap length c.new-all.ensures.items;
  each = subst (AreOrders c.args.sources.now c.args.files.now) (sym c.new-all.ensures.items) tt;
}

pub loop-preserved : goal.loop-preserved
loop-preserved c = record {
  most = omega (arith, c.loop-test.true);
  count = omega (arith, c.in-Ok.ensures.more.1, c.loop.invariant.count);
  each = c.in-Ok.ensures.more.0;
}

pub with_order-requires-clause-orders : goal.with_order-requires-clause-orders
with_order-requires-clause-orders c = c.loop.invariant.each

pub returns-clause-orders : goal.returns-clause-orders
returns-clause-orders c = (
  c.loop.invariant.each,
  omega (arith, c.loop-test.false, c.loop.invariant.most, c.loop.invariant.count),
)
