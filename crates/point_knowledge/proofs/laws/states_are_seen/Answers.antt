use Rattle.point_knowledge.proofs.StepLemmas.{state_seen}
use Rattle.point_knowledge.proofs.laws.states_are_seen.Goals as goal

pub returns : goal.returns
returns c = λ x p t l m s. state_seen x p t l m s
