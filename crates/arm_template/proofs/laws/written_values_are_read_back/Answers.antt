use Rattle.template_written.specs.Written.{written}
use Rattle.arm_template.proofs.StatesLemmas.{states_once, written_states}
use Rattle.arm_template.proofs.laws.written_values_are_read_back.Goals as goal

pub returns : goal.returns
returns c t u s h = states_once (written t) u t h (written_states t s)
