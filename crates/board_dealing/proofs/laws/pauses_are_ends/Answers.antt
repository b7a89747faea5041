use Rattle.board_dealing.proofs.Pausing.{none_may_begin, has_ended}
use Rattle.board_dealing.proofs.laws.pauses_are_ends.Goals as goal

pub returns-clause-waits : goal.returns-clause-waits
returns-clause-waits c = none_may_begin

pub returns-clause-ends : goal.returns-clause-ends
returns-clause-ends c = has_ended
