use Rattle.history_starts.proofs.Puts.{put_once}
use Rattle.history_starts.proofs.laws.puts_once.Goals as goal

pub returns : goal.returns
returns c = put_once
