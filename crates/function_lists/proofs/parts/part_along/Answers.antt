use Rattle.std.proofs.Common.{option_map}
use Rattle.arm_value.specs.View.{json}
use Rattle.function_lists.specs.Values.{or_null}
use Rattle.function_lists.proofs.MemberLemmas.{along_more, along_fails, along_ends}
use Rattle.function_lists.proofs.parts.part_along.Goals as goal

pub returns-in-None : goal.returns-in-None
returns-in-None c =
    along_fails (or_null (option_map (λ v. json v.now) c.loop-part.here)) c.args.path.now c.loop-part.part-index
    c.part-item.result _ c.loop-part-test.true c.part-item.is c.in-None.ensures c.loop-part.invariant

pub loop-part-preserved : goal.loop-part-preserved
loop-part-preserved c =
    along_more (or_null (option_map (λ v. json v.now) c.loop-part.here))
    (or_null (option_map (λ v. json v.now) c.in-Some.next)) c.args.path.now c.loop-part.part-index c.part-item.result
    _ c.loop-part-test.true c.part-item.is c.in-Some.ensures c.loop-part.invariant

pub returns : goal.returns
returns c =
    along_ends (or_null (option_map (λ v. json v.now) c.loop-part.here)) c.args.path.now c.loop-part.part-index _
    c.loop-part-test.false c.loop-part.invariant
