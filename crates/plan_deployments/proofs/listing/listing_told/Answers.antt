use Rattle.plan_table.specs.Found.{scope_at}
use Rattle.plan_deployments.proofs.ListLemmas.{numbers_here, listing_made, listing_stops}
use Rattle.plan_deployments.proofs.listing.listing_told.Goals as goal

pub returns-in-Ok : goal.returns-in-Ok
returns-in-Ok c =
    let t = c.args.table.now in
    let p = (scope_at t c.args.frame).position in
    listing_made t p _ _ (numbers_here t c.args.frame c.requires.ready c.requires.there) c.in-Ok.arrays
    c.in-Ok.ensures.told

pub returns-in-Err : goal.returns-in-Err
returns-in-Err c =
    let t = c.args.table.now in
    let p = (scope_at t c.args.frame).position in
    listing_stops t p _ _ (numbers_here t c.args.frame c.requires.ready c.requires.there) c.in-Err.lack
    c.in-Err.ensures.told
