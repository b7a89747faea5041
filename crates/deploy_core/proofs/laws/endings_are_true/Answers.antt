use Rattle.deploy_core.proofs.EndLemmas.{stands_at_fault, is_circle_there}
use Rattle.deploy_core.proofs.laws.endings_are_true.Goals as goal

pub returns-clause-faulty : goal.returns-clause-faulty
returns-clause-faulty c = stands_at_fault

pub returns-clause-circular : goal.returns-clause-circular
returns-clause-circular c = is_circle_there
