use Rattle.deploy_histories.specs.Events.{progress}
use Rattle.history_laws.proofs.Way.{known_so, stored_so}
use Rattle.history_laws.proofs.laws.known_on_the_way.Goals as goal

pub returns : goal.returns
returns g c = λ x h one planned l given w sat allowed t i.
    known_so x planned w sat (progress h) t i (stored_so _ one x planned w sat allowed h l given)
