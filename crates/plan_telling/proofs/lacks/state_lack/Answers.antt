use Rattle.std.proofs.Common.{sym, ap}
use Rattle.reading.specs.Knowledge.{waits}
use Rattle.deploy_cells.specs.Cells.{state}
use Rattle.plan_telling.proofs.lacks.state_lack.Goals as goal

pub returns-in-Ok : goal.returns-in-Ok
returns-in-Ok c = λ t. ap (λ k. waits (state k)) (sym c.in-Ok.ensures)
