use Rattle.arm_env.proofs.KeyLemmas.{same_key}
use Rattle.plan_names.proofs.LookLemmas.{same_next, one_differs, ones_end}
use Rattle.plan_names.proofs.look.are_one.Goals as goal

pub returns-then-not-same : goal.returns-then-not-same
returns-then-not-same c =
    one_differs c.args.key.now c.args.keys.now c.loop-other.other-index c.other-item.result c.loop-other-test.true
    c.other-item.is c.same.result (same_key c.same.result c.args.key.now c.other-item.result c.same.ensures)
    c.if-not-same.true c.loop-other.invariant

pub loop-other-preserved : goal.loop-other-preserved
loop-other-preserved c =
    same_next c.args.key.now c.args.keys.now c.loop-other.other-index c.other-item.result c.loop-other-test.true
    c.other-item.is c.same.result (same_key c.same.result c.args.key.now c.other-item.result c.same.ensures)
    c.if-not-same.false c.loop-other.invariant

pub returns : goal.returns
returns c =
    ones_end c.args.key.now c.args.keys.now c.loop-other.other-index c.loop-other-test.false c.loop-other.invariant
