use Rattle.deploy_cells.proofs.ListingLemmas.{sought_is}
use Rattle.deploy_cells.proofs.laws.nested_deployments_are_sought.Goals as goal

pub returns : goal.returns
returns c = sought_is
