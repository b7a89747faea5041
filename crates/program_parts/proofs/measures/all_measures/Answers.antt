use Rattle.std.proofs.Common.{◌≡◌, List, sym, subst, arith}
use Rattle.measured_trees.specs.declared.measure.Measure.{Measure}
use Rattle.program_parts.specs.Measures.{AreOf, whole}
use Rattle.program_parts.proofs.MeasureLemmas.{more_whole, none_whole}
use Rattle.program_parts.proofs.measures.all_measures.Goals as goal

pub loop-init : goal.loop-init
loop-init c = record {
  most = omega arith;
  of =
      subst (λ (ms : List Measure). AreOf (whole c.args.parts.now 0) ms) (sym c.new-all.ensures.items)
      (none_whole c.args.parts.now);
}

pub loop-preserved : goal.loop-preserved
loop-preserved c = record {
  most = omega (arith, c.loop-test.true);
  of =
      more_whole c.args.parts.now c.loop.counter c.in-Ok.more.items
      (c.in-Ok.ensures (whole c.args.parts.now c.loop.counter)
      (subst (λ (ms : List Measure). AreOf (whole c.args.parts.now c.loop.counter) ms) (sym c.as_slice.ensures.value)
      c.loop.invariant.of));
}

pub returns : goal.returns
returns c =
    let n : c.loop.counter ≡ 31 = omega (arith, c.loop-test.false, c.loop.invariant.most) in
    subst (λ m. AreOf (whole c.args.parts.now m) c.loop.all.items) n c.loop.invariant.of
