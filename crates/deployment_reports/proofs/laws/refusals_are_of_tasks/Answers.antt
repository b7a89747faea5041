use Rattle.deployment_reports.proofs.RefusalLemmas.{refused_within}
use Rattle.deployment_reports.proofs.laws.refusals_are_of_tasks.Goals as goal

pub returns : goal.returns
returns c = refused_within
