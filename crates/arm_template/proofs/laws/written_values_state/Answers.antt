use Rattle.arm_template.proofs.StatesLemmas.{written_states, stated_nests}
use Rattle.arm_template.proofs.laws.written_values_state.Goals as goal

pub returns-clause-states : goal.returns-clause-states
returns-clause-states c = written_states

pub returns-clause-nests : goal.returns-clause-nests
returns-clause-nests c = stated_nests
