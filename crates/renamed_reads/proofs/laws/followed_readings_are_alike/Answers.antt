use Rattle.renamed_reads.proofs.FollowedLemmas.{seen-followed}
use Rattle.renamed_reads.proofs.laws.followed_readings_are_alike.Goals as goal

pub returns : goal.returns
returns g c = λ w m v n h r e. seen-followed _ _ _ _ _ w m v n h r e
