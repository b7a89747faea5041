use Rattle.board_replays.proofs.ReplayLemmas.{replay_same}
use Rattle.board_replays.proofs.laws.replays_are_one.Goals as goal

pub returns : goal.returns
returns c = replay_same
