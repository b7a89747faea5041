use Rattle.emitted_programs.proofs.SameLemmas.{same_forth, same_back, same_others, same_answers}
use Rattle.emitted_programs.proofs.laws.desired_states_are_the_same.Goals as goal

pub returns : goal.returns
returns c = record {
  forth = λ z d u bound held h w a. same_forth z d u bound held h w a;
  back = λ z d u bound held h w n a. same_back z d u bound held h w n a;
  no_others = λ z d u bound held h v a. same_others z d u bound held h v a;
  answers = λ z d u bound held h w a x. same_answers z d u bound held h w a x;
}
