use Rattle.std.proofs.Common.{sym, subst}
use Rattle.arm_value.specs.View.{json}
use Rattle.point_rows.specs.Rows.{told_now}
use Rattle.plan_sight.specs.Seen.{Yields}
use Rattle.point_sights.proofs.TellNowLemmas.{by_ids, by_names, by_symbols}
use Rattle.point_sights.proofs.telling.told_in_place.Goals as goal

pub returns-in-IdsAlone : goal.returns-in-IdsAlone
returns-in-IdsAlone c =
    let t = c.args.register.now.table in
    let l = c.args.later.now in
    subst (λ q. Yields json t c.told_plainly.result (told_now t l q))
    (sym (by_ids t l c.args.site.now c.args.source.now c.args.place.now c.in-IdsAlone.is)) c.told_plainly.ensures

pub returns-in-Names : goal.returns-in-Names
returns-in-Names c =
    let t = c.args.register.now.table in
    let l = c.args.later.now in
    subst (λ q. Yields json t c.told_plainly-in-Names.result (told_now t l q))
    (sym (by_names t l c.args.site.now c.args.source.now c.args.place.now c.in-Names.is))
    c.told_plainly-in-Names.ensures

pub returns-in-Symbols : goal.returns-in-Symbols
returns-in-Symbols c =
    let t = c.args.register.now.table in
    let l = c.args.later.now in
    subst (λ q. Yields json t c.told_by_symbols.result (told_now t l q))
    (sym (by_symbols t l c.args.site.now c.args.source.now c.args.place.now c.in-Symbols.is)) c.told_by_symbols.ensures
