use Rattle.emitted_plans.proofs.PlanLemmas.{listed_forth, listed_back}
use Rattle.emitted_plans.proofs.laws.plans_list_needs.Goals as goal

pub returns : goal.returns
returns c = record {
  forth = λ z d u bound held h symbols mode k ns planned w s i j x y a b g l e f m n. listed_forth z d u bound held h
      symbols mode k ns planned w s i j x y a b g l e f m n;
  back = λ z d u bound held h symbols mode k ns planned w s i j x y a b g l e f m n. listed_back z d u bound held h
      symbols mode k ns planned w s i j x y a b g l e f m n;
}
