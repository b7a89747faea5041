use Rattle.board_dealing.proofs.Stepping.{same_agenda}
use Rattle.board_dealing.proofs.laws.events_are_kept.Goals as goal

pub returns : goal.returns
returns c = same_agenda
