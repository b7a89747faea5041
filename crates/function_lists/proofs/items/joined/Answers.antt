use Rattle.std.proofs.Common.{◌++◌, ◌∙◌, ap, map}
use Rattle.arm_value.specs.View.{json}
use Rattle.function_lists.proofs.ItemLemmas.{joined_more, joined_fails, joined_ends}
use Rattle.function_lists.proofs.items.joined.Goals as goal

pub returns-in-None : goal.returns-in-None
returns-in-None c = joined_fails (map json c.loop-array.all.items) c.args.arrays.now c.loop-array.array-index
    c.array-item.result _ c.loop-array-test.true c.array-item.is c.in-None.ensures c.loop-array.invariant

pub loop-array-preserved : goal.loop-array-preserved
loop-array-preserved c =
    joined_more (map json c.loop-array.all.items) (map json c.add_copies.new.list.items) c.in-Some.items.now
    c.args.arrays.now c.loop-array.array-index c.array-item.result _ c.loop-array-test.true c.array-item.is
    c.in-Some.ensures
    (c.in_ok-add_copies-in-Some.ensures ∙ ap (λ r. map json c.loop-array.all.items ++ r) c.as_slice.ensures.items)
    c.loop-array.invariant

pub returns : goal.returns
returns c = joined_ends (map json c.loop-array.all.items) c.args.arrays.now c.loop-array.array-index _
    c.loop-array-test.false c.loop-array.invariant
