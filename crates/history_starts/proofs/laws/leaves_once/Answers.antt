use Rattle.history_starts.proofs.Puts.{leave_once}
use Rattle.history_starts.proofs.laws.leaves_once.Goals as goal

pub returns : goal.returns
returns c = leave_once
