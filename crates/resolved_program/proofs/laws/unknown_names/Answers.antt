use Rattle.resolved_program.proofs.UnknownLemmas.{tells_file}
use Rattle.resolved_program.proofs.laws.unknown_names.Goals as goal

pub returns : goal.returns
returns c = λ sc f. tells_file sc f
