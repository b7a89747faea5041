use Rattle.driver_fakes.specs.Pairs.{alone}
use Rattle.driver_fakes.proofs.PairLemmas.{counts_none}
use Rattle.crew_tests.proofs.waiting.WaitingProvider.delete.Goals as goal

pub returns-then-is_alone-clause-count : goal.returns-then-is_alone-clause-count
returns-then-is_alone-clause-count c = counts_none alone c.refused.result c.refused.ensures.gives
