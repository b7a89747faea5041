use Rattle.history_replays.proofs.Recording.{records_are_legal}
use Rattle.history_replays.proofs.laws.a_back_was_an_answer.Goals as goal

pub returns : goal.returns
returns c = records_are_legal
