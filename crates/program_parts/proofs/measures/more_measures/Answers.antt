use Rattle.std.proofs.Common.{◌+◌, drop, ap, sym, ◌∙◌, subst, arith, length}
use Rattle.foundation.proofs.Lists.{next_item, length_more}
use Rattle.program_parts.specs.Parts.{AllFrom}
use Rattle.program_parts.proofs.ItemLemmas.{next_is, with_next}
use Rattle.program_parts.proofs.MeasureLemmas.{IsTaken, next_taken, all_taken}
use Rattle.program_parts.proofs.measures.more_measures.Goals as goal

pub loop-part-init : goal.loop-part-init
loop-part-init c = record {
  most = omega arith;
  count = ap length c.new-all.ensures.items;
  each = λ x h. subst (AllFrom (IsTaken c.args.parts.now x) 0) (sym c.new-all.ensures.items) tt;
}

pub part_measure-requires : goal.part_measure-requires
part_measure-requires c =
    let i = c.loop-part.part-index in
    c.requires i c.part-item.result
    (next_is c.args.parts.now i c.part-item.result (drop (i + 1) c.args.parts.now)
    (next_item c.args.parts.now i c.part-item.result c.loop-part-test.true c.part-item.is))

pub loop-part-preserved : goal.loop-part-preserved
loop-part-preserved c =
    let ps = c.args.parts.now in
    let i = c.loop-part.part-index in
    let p = c.part-item.result in
    record {
      most = omega (arith, c.loop-part-test.true);
      count =
          ap length c.in_ok-push.ensures.items ∙ length_more c.loop-part.all.items c.part_measure.result
          ∙ ap (λ n. n + 1) c.loop-part.invariant.count;
      each = λ x h.
          with_next (IsTaken ps x) c.loop-part.all.items c.push.new.self.items c.part_measure.result
          (c.loop-part.invariant.each x h)
          (next_taken ps x c.loop-part.all.items i p c.part_measure.result c.loop-part.invariant.count
          (next_is ps i p (drop (i + 1) ps) (next_item ps i p c.loop-part-test.true c.part-item.is))
          (c.part_measure.ensures x h)) c.in_ok-push.ensures.items;
    }

pub returns : goal.returns
returns c = λ x h.
    all_taken c.args.parts.now x c.loop-part.all.items
    (omega (arith, c.loop-part-test.false, c.loop-part.invariant.most, c.loop-part.invariant.count))
    (c.loop-part.invariant.each x h)
