use Rattle.crew_channels.proofs.ResultLemmas.{forks}
use Rattle.crew_channels.proofs.results.seat_pass.Goals as goal

pub another-requires-clause-rule : goal.another-requires-clause-rule
another-requires-clause-rule c = forks _ _ c.requires.1
