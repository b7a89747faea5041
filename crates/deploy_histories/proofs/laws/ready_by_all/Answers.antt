use Rattle.deploy_histories.proofs.ReadinessLemmas.{ready_by_table}
use Rattle.deploy_histories.proofs.laws.ready_by_all.Goals as goal

pub returns : goal.returns
returns c = ready_by_table
