use Rattle.bicep_meaning_laws.proofs.ClosingLemmas.{values_mentioned}
use Rattle.bicep_meaning_laws.proofs.laws.reads_of_values_are_of_what_is_mentioned.Goals as goal

pub returns : goal.returns
returns c = values_mentioned
