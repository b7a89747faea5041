use Rattle.emitted_programs.proofs.ReadLemmas.{deployed_alike, deployed_bodies}
use Rattle.emitted_programs.proofs.laws.readings_are_alike.Goals as goal

pub returns : goal.returns
returns c = record {
  cells = λ z d u bound held h w s x are c e g k a. deployed_alike z d u bound held h w s x are c e g k a;
  bodies = λ z d u bound held h w s x are p q n k j kind at number e own i. deployed_bodies z d u bound held h w s x are
      p q n k j kind at number e own i;
}
