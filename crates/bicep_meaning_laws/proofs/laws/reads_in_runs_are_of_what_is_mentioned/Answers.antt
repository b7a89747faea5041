use Rattle.bicep_meaning_laws.proofs.ClosingLemmas.{runs_mentioned}
use Rattle.bicep_meaning_laws.proofs.laws.reads_in_runs_are_of_what_is_mentioned.Goals as goal

pub returns : goal.returns
returns c = runs_mentioned
