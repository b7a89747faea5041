use Rattle.std.proofs.Common.{refl}
use Rattle.driver_loop.proofs.asking.hand.Goals as goal

pub returns-clause-opens : goal.returns-clause-opens
returns-clause-opens g c = (c.of.result, (c.of.ensures.job, c.of.ensures.task, c.of.ensures.act), refl)
