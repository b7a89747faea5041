use Rattle.foundation.proofs.TruthValues.{never_true}
use Rattle.lock_rules.specs.Rules.{ForbidsGroup}
use Rattle.lock_rules.proofs.RuleLemmas.{none_more, none_all, first_here}
use Rattle.lock_rules.proofs.rules.may_delete_group.Goals as goal

pub loop-kept-preserved : goal.loop-kept-preserved
loop-kept-preserved c =
    none_more (ForbidsGroup c.args.subscription.now c.args.group.now) c.args.locks.now c.loop-kept.kept-index
    c.kept-item.result c.loop-kept-test.true c.kept-item.is c.loop-kept.invariant
    (λ h. never_true c.forbids_group.result c.if-forbids_group.false (c.forbids_group.ensures.1 h))

pub returns-then-forbids_group : goal.returns-then-forbids_group
returns-then-forbids_group c =
    first_here (ForbidsGroup c.args.subscription.now c.args.group.now) c.args.locks.now c.loop-kept.kept-index
    c.kept-item.result c.loop-kept-test.true c.kept-item.is c.loop-kept.invariant
    (c.forbids_group.ensures.0 c.if-forbids_group.true)

pub returns : goal.returns
returns c =
    none_all (ForbidsGroup c.args.subscription.now c.args.group.now) c.args.locks.now c.loop-kept.kept-index
    c.loop-kept-test.false c.loop-kept.invariant
