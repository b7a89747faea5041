use Rattle.arm_value.specs.View.{json}
use Rattle.plan_sight.specs.Sites.{surroundings}
use Rattle.plan_telling.specs.Sources.{meaning_of, site_in}
use Rattle.plan_telling.proofs.TellLemmas.{value_told}
use Rattle.plan_telling.proofs.telling.told_plainly.Goals as goal

pub invariant_of-sight : goal.invariant_of-sight
invariant_of-sight c = record { ready = c.requires.complete.ready; there = c.requires.there }

pub returns-in-Ok : goal.returns-in-Ok
returns-in-Ok c =
    let t = c.args.register.now.table in
    let site = c.args.site.now in
    value_told t site.frame c.args.place.now site.loops.now c.args.by_names
    (meaning_of c.args.source.now (surroundings (site_in t site) c.args.place.now)) (json c.in-Ok.value) c.in-Ok.ensures

pub returns-in-Err : goal.returns-in-Err
returns-in-Err c =
    let t = c.args.register.now.table in
    let site = c.args.site.now in
    c.lack_of.ensures site.loops.now (meaning_of c.args.source.now (surroundings (site_in t site) c.args.place.now))
    c.in-Err.ensures
