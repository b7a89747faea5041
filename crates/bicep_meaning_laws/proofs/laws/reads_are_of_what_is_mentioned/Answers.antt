use Rattle.bicep_meaning_laws.proofs.ClosingLemmas.{reads_mentioned}
use Rattle.bicep_meaning_laws.proofs.laws.reads_are_of_what_is_mentioned.Goals as goal

pub returns : goal.returns
returns c = reads_mentioned
