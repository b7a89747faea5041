use Rattle.history_endings.proofs.Causes.{a_cause}
use Rattle.history_endings.proofs.laws.ended_has_a_cause.Goals as goal

pub returns : goal.returns
returns c = a_cause
