use Rattle.planned_tasks.proofs.PutLemmas.{deletion_found}
use Rattle.planned_tasks.proofs.laws.deletes_are_held.Goals as goal

pub returns : goal.returns
returns c = deletion_found
