use Rattle.std.proofs.Common.{◌∙◌, ap, map}
use Rattle.std.specs.List.{filter}
use Rattle.arm_value.specs.View.{json}
use Rattle.function_lists.specs.Items.{is_item_of}
use Rattle.function_lists.proofs.ItemLemmas.{common_more, common_ends}
use Rattle.function_lists.proofs.items.common.Goals as goal

pub loop-array-preserved : goal.loop-array-preserved
loop-array-preserved c =
    let array = json c.array-item.result in
    common_more (map json c.loop-array.all.items) (map json c.in_ok-kept.kept.items) c.args.arrays.now
    c.loop-array.array-index c.array-item.result _ c.loop-array-test.true c.array-item.is
    (c.in_ok-kept.ensures ∙ ap (λ vs. filter (λ j. is_item_of j array) (map json vs)) c.as_slice.ensures.value)
    c.loop-array.invariant

pub returns : goal.returns
returns c = common_ends (map json c.loop-array.all.items) c.args.arrays.now c.loop-array.array-index _
    c.loop-array-test.false c.loop-array.invariant
