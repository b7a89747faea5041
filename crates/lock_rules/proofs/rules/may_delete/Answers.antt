use Rattle.lock_rules.proofs.RuleLemmas.{deletion_forbidden, deletion_free}
use Rattle.lock_rules.proofs.rules.may_delete.Goals as goal

pub returns-in-Some : goal.returns-in-Some
returns-in-Some c = deletion_forbidden c.args.locks.now c.args.key.now c.in-Some.lock.now c.in-Some.ensures

pub returns-in-None : goal.returns-in-None
returns-in-None c = deletion_free c.args.locks.now c.args.key.now c.in-None.ensures
