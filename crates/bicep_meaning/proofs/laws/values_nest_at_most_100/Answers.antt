use Rattle.bicep_meaning.proofs.CappedLemmas.{value_kept}
use Rattle.bicep_meaning.proofs.laws.values_nest_at_most_100.Goals as goal

pub returns : goal.returns
returns c = value_kept
