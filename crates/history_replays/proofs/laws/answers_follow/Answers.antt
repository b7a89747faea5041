use Rattle.history_replays.proofs.Following.{replays_are_legal}
use Rattle.history_replays.proofs.laws.answers_follow.Goals as goal

pub returns : goal.returns
returns c = replays_are_legal
