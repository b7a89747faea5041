use Rattle.foundation.proofs.TruthValues.{never_true}
use Rattle.lock_rules.specs.Rules.{CoversAt}
use Rattle.lock_rules.proofs.RuleLemmas.{none_more, none_all, first_here}
use Rattle.lock_rules.proofs.rules.first_at.Goals as goal

pub loop-lock-preserved : goal.loop-lock-preserved
loop-lock-preserved c =
    none_more (CoversAt c.args.level c.args.key.now) c.args.locks.now c.loop-lock.lock-index c.lock-item.result
    c.loop-lock-test.true c.lock-item.is c.loop-lock.invariant
    (λ h. never_true c.covers_at.result c.if-covers_at.false (c.covers_at.ensures.1 h))

pub returns-then-covers_at : goal.returns-then-covers_at
returns-then-covers_at c =
    first_here (CoversAt c.args.level c.args.key.now) c.args.locks.now c.loop-lock.lock-index c.lock-item.result
    c.loop-lock-test.true c.lock-item.is c.loop-lock.invariant (c.covers_at.ensures.0 c.if-covers_at.true)

pub returns : goal.returns
returns c =
    none_all (CoversAt c.args.level c.args.key.now) c.args.locks.now c.loop-lock.lock-index c.loop-lock-test.false
    c.loop-lock.invariant
