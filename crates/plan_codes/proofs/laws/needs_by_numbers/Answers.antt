use Rattle.std.proofs.Common.{◌≡◌, true}
use Rattle.plan_codes.proofs.TaskLemmas.{needs_coded}
use Rattle.plan_codes.proofs.laws.needs_by_numbers.Goals as goal

pub returns : goal.returns
returns c = λ d number here q apart u v vs h k a b.
    needs_coded d number (λ p. here p ≡ true) apart q u v vs h k a b
