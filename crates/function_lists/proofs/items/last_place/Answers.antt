use Rattle.std.proofs.Common.{◌∙◌, ap}
use Rattle.function_lists.specs.Items.{or_found, here}
use Rattle.arm_value.specs.View.{json}
use Rattle.function_lists.proofs.ItemLemmas.{last_more, last_ends}
use Rattle.function_lists.proofs.items.last_place.Goals as goal

pub loop-i-preserved : goal.loop-i-preserved
loop-i-preserved c =
    last_more c.loop-i.i (json c.args.value.now) c.args.items.now c.index-items-i.result c.loop-i.found
    c.here_or-found.result _ c.loop-i-test.true c.index-items-i.is
    (c.here_or-found.ensures ∙ ap (λ b. or_found (here b c.loop-i.i) c.loop-i.found) c.same.ensures.test)
    c.loop-i.invariant

pub returns : goal.returns
returns c = last_ends c.loop-i.i (json c.args.value.now) c.args.items.now _ _ c.loop-i-test.false c.loop-i.invariant
