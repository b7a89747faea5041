use Rattle.deploy_cells.proofs.FollowedLemmas.{value_in-followed, reads_in-followed, told-followed}
use Rattle.deploy_cells.proofs.laws.reading_followed.Goals as goal

pub returns : goal.returns
returns g c = record {
  in_a_world = λ w v h r e. (value_in-followed _ _ _ _ _ w v h r e, reads_in-followed _ _ _ _ _ w v h r e);
  by_knowledge = λ p q h r e. told-followed _ _ _ _ _ p q h r e;
}
