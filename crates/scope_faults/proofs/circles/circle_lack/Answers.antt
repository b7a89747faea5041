use Rattle.point_rows.specs.declared.later.Entry.TheVariants as entry
use Rattle.scope_faults.proofs.CircleLemmas.{fit_between, set_is, still_within, all_back, lack_result}
use Rattle.scope_faults.proofs.circles.circle_lack.Goals as goal

pub lines_lack-lack-requires-clause-fit : goal.lines_lack-lack-requires-clause-fit
lines_lack-lack-requires-clause-fit c =
    let t = c.args.register.now.table in
    let l = c.args.later.now in
    let js = c.in_ok-vacant.vacant.items in
    fit_between t l c.args.frame c.requires.complete.ready c.requires.there c.requires.fit js c.in_ok-vacant.ensures
    c.set_away.new.later
    (set_is entry.Away c.as_slice.result.now js l.entries.items c.set_away.new.later.entries.items
    c.as_slice.ensures.value c.set_away.ensures.entries) c.set_away.ensures.states c.set_away.ensures.places

pub set_missing-requires : goal.set_missing-requires
set_missing-requires c =
    let t = c.args.register.now.table in
    let l = c.args.later.now in
    let js = c.in_ok-vacant.vacant.items in
    still_within t l c.args.frame js c.as_slice-3.result.now c.set_away.new.later.entries.items c.requires.fit
    c.in_ok-vacant.ensures.own
    (set_is entry.Away c.as_slice.result.now js l.entries.items c.set_away.new.later.entries.items
    c.as_slice.ensures.value c.set_away.ensures.entries) c.as_slice-3.ensures.value

pub returns-clause-entries : goal.returns-clause-entries
returns-clause-entries c =
    let t = c.args.register.now.table in
    let l = c.args.later.now in
    let js = c.in_ok-vacant.vacant.items in
    all_back t l c.args.frame js c.set_away.new.later.entries.items c.set_missing.new.later.entries.items
    c.requires.fit c.in_ok-vacant.ensures
    (set_is entry.Away c.as_slice.result.now js l.entries.items c.set_away.new.later.entries.items
    c.as_slice.ensures.value c.set_away.ensures.entries)
    (set_is entry.Missing c.as_slice-3.result.now js c.set_away.new.later.entries.items
    c.set_missing.new.later.entries.items c.as_slice-3.ensures.value c.set_missing.ensures.entries)

pub returns-clause-lack : goal.returns-clause-lack
returns-clause-lack c =
    let t = c.args.register.now.table in
    let l = c.args.later.now in
    let js = c.in_ok-vacant.vacant.items in
    lack_result t l c.args.frame c.requires.complete.ready c.requires.there c.requires.fit js
    c.as_slice-2.result.now c.in_ok-vacant.ensures c.set_away.new.later
    (set_is entry.Away c.as_slice.result.now js l.entries.items c.set_away.new.later.entries.items
    c.as_slice.ensures.value c.set_away.ensures.entries) c.set_away.ensures.states c.requires.told
    c.as_slice-2.ensures.value c.lines_lack-lack.result c.lines_lack-lack.ensures
