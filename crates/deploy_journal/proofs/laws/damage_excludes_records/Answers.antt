use Rattle.deploy_journal.proofs.Unique.{damaged_none}
use Rattle.deploy_journal.proofs.laws.damage_excludes_records.Goals as goal

pub returns : goal.returns
returns c = λ file records at n small damaged held. damaged_none file at n records small damaged held
