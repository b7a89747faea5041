-- A deployment in which no answer has refused, and nothing more may come.
use Rattle.std.specs.Prelude.{◌≡◌, None}
use Rattle.deploy_histories.specs.Planned.{Planned}
use Rattle.deploy_histories.specs.Events.{Progress}
use Rattle.deploy_histories.specs.Legal.{NothingMay}

pub record IsOver (x : Planned) (p : Progress) : Type 0 where
  pub unrefused : p.refusal ≡ None
  pub nothing_may : NothingMay x p
