use Rattle.point_knowledge.proofs.StepLemmas.{absence_seen}
use Rattle.point_knowledge.proofs.laws.absences_are_seen.Goals as goal

pub returns : goal.returns
returns c = λ x p t l m j is seen h spot told_is adds. absence_seen x p t l m j is seen h spot told_is adds
