use Rattle.deployment_requests.proofs.OneTemplate.{of_one}
use Rattle.deployment_requests.proofs.laws.plans_are_of_one_template.Goals as goal

pub returns : goal.returns
returns c = of_one c.stated_once.ensures
