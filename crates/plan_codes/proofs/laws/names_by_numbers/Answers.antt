use Rattle.plan_codes.proofs.NameLemmas.{value_named}
use Rattle.plan_codes.proofs.laws.names_by_numbers.Goals as goal

pub returns : goal.returns
returns c = λ f g form place t v r i n. value_named f g place r i n form t v
