use Rattle.history_outputs.proofs.Ended.{outputs_so}
use Rattle.history_outputs.proofs.laws.outputs_of_outcomes.Goals as goal

pub returns : goal.returns
returns g c = λ x h planned legal ended os all w o. outputs_so x planned h legal ended os all w o.satisfies o.belongs
