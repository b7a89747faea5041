use Rattle.history_starts.proofs.Lists.{lists_known}
use Rattle.history_starts.proofs.laws.lists_are_known.Goals as goal

pub returns : goal.returns
returns c = lists_known
