use Rattle.std.proofs.Common.{arith}
use Rattle.scope_outputs.proofs.OfferLemmas.{noted_ends}
use Rattle.scope_outputs.proofs.offering.offer.Goals as goal

pub returns : goal.returns
returns c =
    noted_ends c.args.register.now.table c.args.later.now c.args.frame c.outputs.told.items c.outputs.number
    (omega (arith, c.outputs-test.false, c.output_count-number-end.ensures)) c.outputs.invariant
