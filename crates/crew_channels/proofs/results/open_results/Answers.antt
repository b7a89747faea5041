use Rattle.crew_channels.proofs.ResultLemmas.{begins}
use Rattle.crew_channels.proofs.results.open_results.Goals as goal

pub bounded_with-requires-clause-rule : goal.bounded_with-requires-clause-rule
bounded_with-requires-clause-rule c = begins
