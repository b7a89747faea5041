use Rattle.history_worlds.proofs.Solved.{a_world}
use Rattle.history_worlds.proofs.laws.a_desired_state.Goals as goal

pub returns : goal.returns
returns g c = λ x h planned legal given ended. a_world _ x planned h legal given ended
