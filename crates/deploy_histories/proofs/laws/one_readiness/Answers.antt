use Rattle.std.proofs.Common.{ap}
use Rattle.plan_cells.specs.Known.{Table}
use Rattle.deploy_histories.specs.Readiness.{readiness}
use Rattle.deploy_histories.proofs.ReadinessLemmas.{same_table}
use Rattle.deploy_histories.proofs.laws.one_readiness.Goals as goal

pub returns : goal.returns
returns c = record {
  table = same_table;
  readiness = λ x p s t i j u task. ap (λ (q : Table). readiness x q p.status u task) (same_table x p s t i j);
}
