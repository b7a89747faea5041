use Rattle.history_laws.proofs.Alone.{one_by_answers}
use Rattle.history_laws.proofs.laws.one_desired_state.Goals as goal

pub returns : goal.returns
returns c = one_by_answers
