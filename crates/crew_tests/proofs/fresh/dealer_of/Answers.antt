use Rattle.crew_tests.proofs.FreshLemmas.{none_dealt}
use Rattle.crew_tests.proofs.fresh.dealer_of.Goals as goal

pub returns : goal.returns
returns c = none_dealt c.in_ok-new.field-0 c.args.jobs.items c.args.needs.items c.in_ok-new.ensures
