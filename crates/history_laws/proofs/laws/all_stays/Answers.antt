use Rattle.deploy_histories.proofs.PointLemmas.{later_point}
use Rattle.deploy_histories.specs.Planned.{basis}
use Rattle.deploy_histories.specs.Events.{after_all}
use Rattle.deploy_histories.specs.Points.{point}
use Rattle.history_laws.proofs.Steps.{all_stay_done, points_later}
use Rattle.history_laws.proofs.laws.all_stays.Goals as goal

pub returns : goal.returns
returns c = record {
  done = all_stay_done;
  known = λ x p es l s t i j.
      later_point x.deployment (basis x) (point x p.status) (point x (after_all es p).status)
      (points_later p.status (after_all es p).status (all_stay_done x p es l) x) s t i j;
}
