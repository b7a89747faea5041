use Rattle.emission_laws.proofs.FilledLemmas.{has_holes}
use Rattle.emission_laws.proofs.laws.runs_fill_holes.Goals as goal

pub returns : goal.returns
returns c = λ file files sound k n. has_holes file files sound k n
