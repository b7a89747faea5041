use Rattle.history_outputs.proofs.Ended.{table_there}
use Rattle.history_outputs.proofs.laws.all_is_known.Goals as goal

pub returns : goal.returns
returns c = λ x h planned legal ended. table_there x planned h legal ended
