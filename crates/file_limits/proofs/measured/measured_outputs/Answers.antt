use Rattle.std.proofs.Common.{length, subst, sym, arith}
use Rattle.bicep_declared.specs.View.{output_tree}
use Rattle.emitted_templates.specs.Seen.{file_in}
use Rattle.emitted_templates.proofs.LimitLemmas.{item_is, same_size}
use Rattle.measured_trees.specs.Measures.{IsOf}
use Rattle.file_limits.specs.Extremes.{metadata_at, over, output_extremes, output_value}
use Rattle.file_limits.proofs.OverLemmas.{next_over, all_over}
use Rattle.file_limits.proofs.measured.measured_outputs.Goals as goal

pub loop-number-init : goal.loop-number-init
loop-number-init c = record { most = omega arith; so_far = c.nothing-all.ensures.nothing }

pub loop-number-preserved : goal.loop-number-preserved
loop-number-preserved c =
    let s = c.args.table.now in
    let y = output_extremes s c.args.metadata.now in
    let n = c.loop-number.number in
    record {
      most = omega (arith, c.loop-number-test.true);
      so_far =
          next_over y n c.with-all.result
          (c.with-all.ensures.both (over y n) (y n) c.loop-number.invariant.so_far
          (subst (λ o. IsOf (output_value s (metadata_at c.args.metadata.now n) o) c.in_ok-one.one)
          (sym (item_is output_tree c.args.outputs.now (file_in s).declared.outputs n c.index-outputs-number.result
          c.requires.declared c.loop-number-test.true c.index-outputs-number.is)) c.in_ok-one.ensures));
    }

pub returns : goal.returns
returns c =
    let os = (file_in c.args.table.now).declared.outputs in
    let a = same_size output_tree c.args.outputs.now os c.requires.declared in
    all_over (output_extremes c.args.table.now c.args.metadata.now) c.loop-number.number (length os) c.loop-number.all
    (omega (arith, a, c.loop-number-test.false, c.loop-number.invariant.most)) c.loop-number.invariant.so_far
