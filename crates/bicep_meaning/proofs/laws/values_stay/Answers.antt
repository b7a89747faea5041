use Rattle.function_prints.specs.Json.{Json}
use Rattle.deploy_cells.specs.Cells.{Cell}
use Rattle.reading.proofs.Growth.{told_still}
use Rattle.bicep_meaning.specs.Meaning.{value}
use Rattle.bicep_meaning.proofs.laws.values_stay.Goals as goal

pub returns : goal.returns
returns c = λ here a e fs p q grows. told_still Cell Json Json p q grows (value here a e fs)
