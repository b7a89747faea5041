use Rattle.plan_values.proofs.ValueLemmas.{spot_there, deployments_shown}
use Rattle.plan_values.proofs.values.deployments_told.Goals as goal

pub listing_told-requires-clause-there : goal.listing_told-requires-clause-there
listing_told-requires-clause-there c = spot_there c.args.register.now.table c.args.frame c.requires.spot.there

pub returns : goal.returns
returns c =
    deployments_shown c.args.register.now.table c.args.frame c.requires.complete.ready
    (spot_there c.args.register.now.table c.args.frame c.requires.spot.there) c.listing_told.result
    c.listing_told.ensures
