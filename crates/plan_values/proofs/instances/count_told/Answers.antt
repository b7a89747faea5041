use Rattle.plan_table.specs.Listed.{listed_of}
use Rattle.plan_values.proofs.SiteLemmas.{one_listed}
use Rattle.plan_values.proofs.ValueLemmas.{spot_there, count_looped, count_alone}
use Rattle.plan_values.proofs.instances.count_told.Goals as goal

pub listed_at-requires-clause-there : goal.listed_at-requires-clause-there
listed_at-requires-clause-there c = spot_there c.args.register.now.table c.args.frame c.requires.spot.there

pub listed_at-requires-clause-number : goal.listed_at-requires-clause-number
listed_at-requires-clause-number c = c.requires.spot.declared

pub told_of_count-requires-clause-there : goal.told_of_count-requires-clause-there
told_of_count-requires-clause-there c = spot_there c.args.register.now.table c.args.frame c.requires.spot.there

pub returns-in-Some : goal.returns-in-Some
returns-in-Some c =
    let t = c.args.register.now.table in
    let h = spot_there t c.args.frame c.requires.spot.there in
    let n = c.requires.spot.declared in
    count_looped t c.args.frame c.requires.complete.ready h c.args.resource n (listed_of c.listed_at.result.now)
    (one_listed t c.args.frame c.args.resource n (listed_of c.listed_at.result.now) c.listed_at.ensures)
    c.told_of_count.result c.in-Some.looping c.in-Some.is c.told_of_count.ensures

pub returns-in-None : goal.returns-in-None
returns-in-None c =
    let t = c.args.register.now.table in
    let h = spot_there t c.args.frame c.requires.spot.there in
    let n = c.requires.spot.declared in
    count_alone t c.args.frame c.requires.complete.ready h c.args.resource n (listed_of c.listed_at.result.now)
    (one_listed t c.args.frame c.args.resource n (listed_of c.listed_at.result.now) c.listed_at.ensures)
    c.in-None.is
