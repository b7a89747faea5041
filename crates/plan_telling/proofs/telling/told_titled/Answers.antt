use Rattle.std.proofs.Common.{subst, false, map, ◌∙◌, Ok, Err}
use Rattle.arm_value.specs.View.{json}
use Rattle.arm_eval.specs.Titles as titles
use Rattle.arm_eval.specs.Titles.{titled}
use Rattle.arm_eval.specs.Words.{listed_in}
use Rattle.reading.specs.Reading.{through}
use Rattle.plan_sight.specs.Sites.{surroundings}
use Rattle.plan_sight.specs.Ready.{told_in}
use Rattle.plan_sight.specs.Seen.{Yields}
use Rattle.plan_sights.specs.Seats.{seat_of}
use Rattle.plan_telling.specs.Sources.{meaning_of, site_in, followed_in}
use Rattle.plan_telling.proofs.TellLemmas.{value_told, titles_here, loops_here}
use Rattle.plan_telling.proofs.telling.told_titled.Goals as goal

pub invariant_of-sight : goal.invariant_of-sight
invariant_of-sight c = record { ready = c.requires.complete.ready; there = c.requires.there }

pub returns-in-Ok : goal.returns-in-Ok
returns-in-Ok c =
    let t = c.args.register.now.table in
    let site = c.args.site.now in
    let place = c.args.place.now in
    let looking = meaning_of c.args.source.now (surroundings (site_in t site) place) in
    let ls = c.as_slice.ensures.value
    ∙ loops_here t site.frame c.index.result.now c.requires.there c.index.ensures in
    subst (λ (x : titles.Titles). Yields json t (Ok c.in-Ok.value) (told_in t (followed_in (seat_of t site.frame place
    site.loops.now false) (through (titled x place) looking))))
    (titles_here t site.frame (map listed_in c.args.symbols.now) c.as_slice.result.now c.requires.complete.ready
    c.requires.there c.requires.symbols ls)
    (value_told t site.frame place site.loops.now false _ (json c.in-Ok.value) c.in-Ok.ensures)

pub returns-in-Err : goal.returns-in-Err
returns-in-Err c =
    let t = c.args.register.now.table in
    let site = c.args.site.now in
    let place = c.args.place.now in
    let looking = meaning_of c.args.source.now (surroundings (site_in t site) place) in
    let ls = c.as_slice.ensures.value
    ∙ loops_here t site.frame c.index.result.now c.requires.there c.index.ensures in
    subst (λ (x : titles.Titles). Yields json t (Err c.lack_of.result) (told_in t (followed_in (seat_of t site.frame
    place site.loops.now false) (through (titled x place) looking))))
    (titles_here t site.frame (map listed_in c.args.symbols.now) c.as_slice.result.now c.requires.complete.ready
    c.requires.there c.requires.symbols ls)
    (c.lack_of.ensures site.loops.now _ c.in-Err.ensures)
