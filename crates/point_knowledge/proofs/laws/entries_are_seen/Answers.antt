use Rattle.point_knowledge.proofs.StepLemmas.{value_seen}
use Rattle.point_knowledge.proofs.laws.entries_are_seen.Goals as goal

pub returns : goal.returns
returns c = λ x p t l m j v is seen h spot told_is adds. value_seen x p t l m j v is seen h spot told_is adds
