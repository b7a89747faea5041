use Rattle.plan_refusals.proofs.RefusalLemmas.{resources_differ, deployments_differ}
use Rattle.plan_refusals.proofs.laws.keys_differ.Goals as goal

pub returns : goal.returns
returns c = record { resources = resources_differ; deployments = deployments_differ }
