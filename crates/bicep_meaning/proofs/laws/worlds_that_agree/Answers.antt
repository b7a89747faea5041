use Rattle.function_prints.specs.Json.{Json}
use Rattle.deploy_cells.specs.Cells.{Cell}
use Rattle.reading.proofs.Agreement.{agree}
use Rattle.bicep_meaning.specs.Meaning.{value}
use Rattle.bicep_meaning.proofs.laws.worlds_that_agree.Goals as goal

pub returns : goal.returns
returns c = λ here a e fs w v same. agree Cell Json Json w v (value here a e fs) same
