use Rattle.lock_rules.proofs.KeepingLemmas.{nothing_kept}
use Rattle.lock_rules.proofs.locks.Locks.new.Goals as goal

pub invariant_of-result : goal.invariant_of-result
invariant_of-result c = nothing_kept _ _ c.new.ensures.items c.new-2.ensures.items
