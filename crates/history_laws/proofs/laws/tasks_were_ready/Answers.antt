use Rattle.history_laws.proofs.Keeping.{kept_always}
use Rattle.history_laws.proofs.laws.tasks_were_ready.Goals as goal

pub returns : goal.returns
returns g c = λ x h l given. kept_always _ x h l given
