use Rattle.function_lists.proofs.UnionLemmas.{all_more, all_fails, all_ends}
use Rattle.function_lists.proofs.unions.united_all.Goals as goal

pub loop-other-preserved : goal.loop-other-preserved
loop-other-preserved c = all_more c.loop-other.all c.in_ok-all-in-Some.all c.in-Some.fields.now c.args.others.now
    c.loop-other.other-index c.other-item.result _ c.loop-other-test.true c.other-item.is c.in-Some.ensures
    c.in_ok-all-in-Some.ensures c.loop-other.invariant

pub returns-in-None : goal.returns-in-None
returns-in-None c = all_fails c.loop-other.all c.args.others.now c.loop-other.other-index c.other-item.result _
    c.loop-other-test.true c.other-item.is c.in-None.ensures c.loop-other.invariant

pub returns : goal.returns
returns c = all_ends c.loop-other.all c.args.others.now c.loop-other.other-index _ c.loop-other-test.false
    c.loop-other.invariant
