use Rattle.numbered_plans.proofs.KeyLemmas.{own_keys}
use Rattle.numbered_plans.proofs.ScopeLemmas.{entered, left, of_table}
use Rattle.numbered_plans.proofs.laws.plans_have_numbers.Goals as goal

pub returns : goal.returns
returns c = λ p held planned history few. record {
  few = few;
  keys = own_keys p held planned history;
  entered = entered p held planned history;
  left = left p held planned history;
  of_table = of_table p held planned history;
}
