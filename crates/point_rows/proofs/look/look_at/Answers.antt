use Rattle.std.proofs.Common.{arith}
use Rattle.plan_table.specs.declared.line.State.TheVariants as how
use Rattle.plan_sight.proofs.LookLemmas.{state_here}
use Rattle.point_rows.proofs.ToldNowLemmas.{has_value, has_none, entry_shows, entry_here}
use Rattle.point_rows.proofs.look.look_at.Goals as goal

pub returns-in-Value : goal.returns-in-Value
returns-in-Value c =
    has_value c.args.table.now c.args.later.now c.args.at c.requires.ready c.requires.listed c.requires.entry
    c.in-Value.value
    (state_here c.args.table.now c.args.at c.index.result.now (how.Value c.in-Value.value) c.requires.listed
    c.index.ensures c.in-Value.is)

pub returns-in-Empty : goal.returns-in-Empty
returns-in-Empty c =
    has_none c.args.table.now c.args.later.now c.args.at c.requires.ready c.requires.listed c.requires.entry
    (state_here c.args.table.now c.args.at c.index.result.now how.Empty c.requires.listed c.index.ensures
    c.in-Empty.is)

pub returns-in-New : goal.returns-in-New
returns-in-New c =
    let fit = c.requires.fit.entries in
    let listed = c.requires.listed in
    entry_shows c.args.table.now c.args.later.now c.args.at c.requires.ready c.requires.listed (λ v. v.now)
    c.requires.entry how.New
    (state_here c.args.table.now c.args.at c.index.result.now how.New c.requires.listed c.index.ensures c.in-New.is) tt
    c.index-in-New.result.now
    (entry_here c.args.later.now.entries.items c.args.at c.index-in-New.result.now (omega (arith, fit, listed))
    c.index-in-New.ensures) c.entry_value.result c.entry_value.ensures

pub returns-in-Open : goal.returns-in-Open
returns-in-Open c =
    let fit = c.requires.fit.entries in
    let listed = c.requires.listed in
    entry_shows c.args.table.now c.args.later.now c.args.at c.requires.ready c.requires.listed (λ v. v.now)
    c.requires.entry how.Open
    (state_here c.args.table.now c.args.at c.index.result.now how.Open c.requires.listed c.index.ensures c.in-Open.is)
    tt
    c.index-in-Open.result.now
    (entry_here c.args.later.now.entries.items c.args.at c.index-in-Open.result.now (omega (arith, fit, listed))
    c.index-in-Open.ensures) c.entry_value-in-Open.result c.entry_value-in-Open.ensures

pub returns-in-Late : goal.returns-in-Late
returns-in-Late c =
    let fit = c.requires.fit.entries in
    let listed = c.requires.listed in
    entry_shows c.args.table.now c.args.later.now c.args.at c.requires.ready c.requires.listed (λ v. v.now)
    c.requires.entry (how.Late c.in-Late.field-0)
    (state_here c.args.table.now c.args.at c.index.result.now (how.Late c.in-Late.field-0) c.requires.listed
    c.index.ensures c.in-Late.is) tt
    c.index-in-Late.result.now
    (entry_here c.args.later.now.entries.items c.args.at c.index-in-Late.result.now (omega (arith, fit, listed))
    c.index-in-Late.ensures) c.entry_value-in-Late.result c.entry_value-in-Late.ensures
