use Rattle.lock_rules.proofs.RuleLemmas.{effective_read_only, effective_rest}
use Rattle.lock_rules.proofs.rules.effective.Goals as goal

pub returns-in-Some : goal.returns-in-Some
returns-in-Some c =
    effective_read_only c.args.locks.now c.args.key.now c.in-Some.lock.now c.in-Some.ensures

pub returns-in-None : goal.returns-in-None
returns-in-None c =
    effective_rest (λ r. r.now) c.args.locks.now c.args.key.now c.first_at-in-None.result c.in-None.ensures
    c.first_at-in-None.ensures
