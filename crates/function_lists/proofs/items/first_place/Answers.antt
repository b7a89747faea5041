use Rattle.std.proofs.Common.{◌∙◌, sym}
use Rattle.arm_value.specs.View.{json}
use Rattle.function_lists.proofs.ItemLemmas.{first_found, first_more, first_ends}
use Rattle.function_lists.proofs.items.first_place.Goals as goal

pub returns-then-same : goal.returns-then-same
returns-then-same c = first_found c.loop-i.i (json c.args.value.now) c.args.items.now c.index-items-i.result _
    c.loop-i-test.true c.index-items-i.is (sym c.same.ensures.test ∙ c.if-same.true) c.loop-i.invariant

pub loop-i-preserved : goal.loop-i-preserved
loop-i-preserved c = first_more c.loop-i.i (json c.args.value.now) c.args.items.now c.index-items-i.result _
    c.loop-i-test.true c.index-items-i.is (sym c.same.ensures.test ∙ c.if-same.false) c.loop-i.invariant

pub returns : goal.returns
returns c = first_ends c.loop-i.i (json c.args.value.now) c.args.items.now _ c.loop-i-test.false c.loop-i.invariant
