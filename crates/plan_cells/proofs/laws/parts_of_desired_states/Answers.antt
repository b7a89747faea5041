use Rattle.plan_cells.proofs.DesiredLemmas.{forth, back}
use Rattle.plan_cells.proofs.laws.parts_of_desired_states.Goals as goal

pub returns : goal.returns
returns c = record { forth = forth; back = back }
