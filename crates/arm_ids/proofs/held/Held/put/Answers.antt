use Rattle.arm_ids.specs.Entry.{as_held}
use Rattle.arm_ids.proofs.RowLemmas.{found_after_put}
use Rattle.arm_ids.proofs.held.Held.put.Goals as goal

pub returns-in_ok-put_row-in-Ok-clause-finds : goal.returns-in_ok-put_row-in-Ok-clause-finds
returns-in_ok-put_row-in-Ok-clause-finds c =
    found_after_put _ _ c.args.self.now (as_held c.args.entry) c.in_ok-put_row-in-Ok.ensures.held c.self.view_is
