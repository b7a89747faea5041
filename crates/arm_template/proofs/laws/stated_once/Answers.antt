use Rattle.arm_template.proofs.StatesLemmas.{states_once}
use Rattle.arm_template.proofs.laws.stated_once.Goals as goal

pub returns : goal.returns
returns c = states_once
