use Rattle.renamed_reads.proofs.FollowedLemmas.{reads-unmarked}
use Rattle.renamed_reads.proofs.laws.no_read_is_marked.Goals as goal

pub returns : goal.returns
returns g c = λ v n r e. reads-unmarked _ _ _ v n r e
