use Rattle.plan_cells.proofs.SiteLemmas.{by_one_reading}
use Rattle.plan_cells.proofs.laws.sites_by_one_reading.Goals as goal

pub returns : goal.returns
returns g c = λ t place e f. by_one_reading t place e _ f
