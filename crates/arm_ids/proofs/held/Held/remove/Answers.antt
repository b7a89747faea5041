use Rattle.arm_ids.specs.Id.{folded_text}
use Rattle.arm_ids.proofs.RowLemmas.{found_after_removal}
use Rattle.arm_ids.proofs.held.Held.remove.Goals as goal

pub returns-clause-finds : goal.returns-clause-finds
returns-clause-finds c =
    found_after_removal _ _ c.args.self.now c.id.result.now (folded_text c.args.key.now) c.take_row.ensures.held
    c.self.invariant.in_order c.id.ensures c.self.view_is
