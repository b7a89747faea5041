use Rattle.emitted_plans.proofs.TaskLemmas.{task_forth, task_back}
use Rattle.emitted_plans.proofs.laws.tasks_are_the_same.Goals as goal

pub returns : goal.returns
returns c = record {
  forth = λ z d u bound held h w s x a e k n. task_forth z d u bound held h w x a e k n;
  back = λ z d u bound held h w s a k. task_back z d u bound held h w a k;
}
