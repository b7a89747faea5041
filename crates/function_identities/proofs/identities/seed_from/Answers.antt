use Rattle.function_identities.proofs.SeedLemmas.{seed_more, seed_fails, seed_ends}
use Rattle.function_identities.proofs.identities.seed_from.Goals as goal

pub returns-in-None : goal.returns-in-None
returns-in-None c =
    seed_fails c.loop-other.seed.items c.args.others.now c.loop-other.other-index c.other-item.result _
    c.loop-other-test.true c.other-item.is c.in-None.ensures c.loop-other.invariant

pub loop-other-preserved : goal.loop-other-preserved
loop-other-preserved c =
    seed_more c.loop-other.seed.items c.push.new.self.items c.add-in-Some.new.seed.items c.in-Some.text.now
    c.args.others.now c.loop-other.other-index c.other-item.result _ c.loop-other-test.true c.other-item.is
    c.in-Some.ensures c.in_ok-push-in-Some.ensures.items c.in_ok-add-in-Some.ensures c.loop-other.invariant

pub returns : goal.returns
returns c = seed_ends c.loop-other.seed.items c.args.others.now c.loop-other.other-index _ c.loop-other-test.false
    c.loop-other.invariant
