use Rattle.std.proofs.Common.{[], sym, refl, subst}
use Rattle.driver_loop.specs.Ends.{Asks}
use Rattle.driver_loop.proofs.RunLemmas.{ran_none}
use Rattle.driver_loop.proofs.running.ask.Goals as goal

pub returns-in-Some-clause-ran : goal.returns-in-Some-clause-ran
returns-in-Some-clause-ran g c = ([], subst (λ x. Asks x x []) (sym c.in-Some.is) (refl, refl), ran_none _)
