use Rattle.planned_tasks.proofs.PutLemmas.{put_included}
use Rattle.planned_tasks.proofs.laws.puts_are_included.Goals as goal

pub returns : goal.returns
returns c = put_included
