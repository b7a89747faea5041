use Rattle.std.proofs.Common.{◌∙◌, ◌++◌, ◌∷◌, [], ap, map}
use Rattle.std.specs.Prelude.{if◌then◌else◌}
use Rattle.arm_value.specs.View.{json}
use Rattle.function_lists.specs.Items.{is_among}
use Rattle.function_lists.proofs.ItemLemmas.{filter_more, filter_ends}
use Rattle.function_lists.proofs.items.indexed.Goals as goal

pub loop-value-preserved : goal.loop-value-preserved
loop-value-preserved c = λ js h.
    let kept = map json c.loop-value.all.items in
    let v = c.value-item.result in
    filter_more (is_among js) kept (map json c.add_passing.new.all.items) c.args.values.now c.loop-value.value-index v
    _ c.loop-value-test.true c.value-item.is
    (c.in_ok-add_passing.ensures ∙ ap (λ b. if b then kept ++ json v ∷ [] else kept) (c.in_ok-passes.ensures js h))
    (c.loop-value.invariant js h)

pub returns : goal.returns
returns c =
    λ js h. filter_ends (is_among js) (map json c.loop-value.all.items) c.args.values.now c.loop-value.value-index _
    c.loop-value-test.false (c.loop-value.invariant js h)
