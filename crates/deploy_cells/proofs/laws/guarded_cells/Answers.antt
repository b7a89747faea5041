use Rattle.deploy_cells.proofs.CellLemmas.{guarded_value, guarded_told}
use Rattle.deploy_cells.proofs.laws.guarded_cells.Goals as goal

pub returns : goal.returns
returns c = record { in_a_world = guarded_value; by_knowledge = guarded_told }
