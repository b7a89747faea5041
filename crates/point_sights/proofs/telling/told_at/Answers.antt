use Rattle.arm_value.specs.View.{json}
use Rattle.plan_telling.specs.Sources.{site_in}
use Rattle.point_sights.proofs.TellNowLemmas.{place_goes, place_stops}
use Rattle.point_sights.proofs.telling.told_at.Goals as goal

pub returns-in-Ok : goal.returns-in-Ok
returns-in-Ok c =
    let t = c.args.register.now.table in
    let l = c.args.later.now in
    place_goes t l (site_in t c.args.site.now) c.args.source.now json c.told_in_place-told.result c.in-Ok.place
    c.in-Ok.ensures c.told_in_place-told.ensures

pub returns-in-Err : goal.returns-in-Err
returns-in-Err c =
    let t = c.args.register.now.table in
    let l = c.args.later.now in
    place_stops t l (site_in t c.args.site.now) c.args.source.now c.in-Err.lack c.in-Err.ensures
