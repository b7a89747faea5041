use Rattle.std.proofs.Common.{◌∙◌, sym, map, arith}
use Rattle.arm_value.specs.View.{member}
use Rattle.function_lists.proofs.MergeLemmas.{rest_is_shorter, moved_more, left_more, moved_all, left_all}
use Rattle.function_lists.proofs.merge.move_below.Goals as goal

pub loop-fields-smaller : goal.loop-fields-smaller
loop-fields-smaller c =
    let shorter = rest_is_shorter c.args.name.now c.loop-fields.fields.items c.move_first.new.queue.items
    (sym c.starts_below.ensures ∙ c.loop-fields-test.true) c.in_ok-move_first.ensures.left in
    omega (arith, shorter, c.loop-fields.fields.ok.0, c.move_first.new.queue.ok.0)

pub loop-fields-preserved : goal.loop-fields-preserved
loop-fields-preserved c =
    let starts = sym c.starts_below.ensures ∙ c.loop-fields-test.true in
    record {
      moved = moved_more c.args.name.now c.loop-fields.fields.items c.move_first.new.queue.items
          c.loop-fields.members.items c.move_first.new.list.items _ starts c.in_ok-move_first.ensures.left
          c.in_ok-move_first.ensures.moved c.loop-fields.invariant.moved;
      left = left_more c.args.name.now c.loop-fields.fields.items c.move_first.new.queue.items _ starts
          c.in_ok-move_first.ensures.left c.loop-fields.invariant.left;
    }

pub returns-clause-moved : goal.returns-clause-moved
returns-clause-moved c =
    moved_all c.args.name.now (map member c.loop-fields.members.items) (map member c.loop-fields.fields.items) _
    (sym c.starts_below.ensures ∙ c.loop-fields-test.false) c.loop-fields.invariant.moved

pub returns-clause-left : goal.returns-clause-left
returns-clause-left c = left_all c.args.name.now (map member c.loop-fields.fields.items) _ (sym c.starts_below.ensures
    ∙ c.loop-fields-test.false) c.loop-fields.invariant.left
