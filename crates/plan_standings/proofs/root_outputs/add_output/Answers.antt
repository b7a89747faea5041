use Rattle.std.proofs.Common.{◌≡◌, ◌<◌, ◌∙◌, length, arith}
use Rattle.arm_value.specs.Look.{fold}
use Rattle.plan_sight.proofs.LookLemmas.{found_some, found_none}
use Rattle.point_rows.proofs.ToldNowLemmas.{entry_here}
use Rattle.plan_standings.proofs.RootLemmas.{root_there, declared_there, value_added, away_added, never_missing}
use Rattle.plan_standings.proofs.root_outputs.add_output.Goals as goal

pub offered_line-requires-clause-laid : goal.offered_line-requires-clause-laid
offered_line-requires-clause-laid c = c.requires.ready.laid

pub offered_line-requires-clause-there : goal.offered_line-requires-clause-there
offered_line-requires-clause-there c = root_there c.args.table.now c.requires.ready

pub unreachable-requires-in-Ok-None : goal.unreachable-requires-in-Ok-None
unreachable-requires-in-Ok-None c =
    found_none _ c.in-Ok-None.field-0 c.in-Ok-None.field-0-is c.in-Ok-None.ensures.missing
    (declared_there c.args.table.now c.requires.ready (fold c.args.declared.now.name) c.requires.declared)

pub returns-in_ok-push-in-Value : goal.returns-in_ok-push-in-Value
returns-in_ok-push-in-Value c =
    let at = c.in-Ok-Some.at in
    let line = found_some _ c.in-Ok-Some.field-0 at c.in-Ok-Some.field-0-is c.in-Ok-Some.ensures.found in
    let listed : at < length c.args.table.now.lines.items = line.listed in
    let fit : length c.args.later.now.entries.items ≡ length c.args.table.now.lines.items = c.requires.fit.entries in
    value_added c.args.table.now c.requires.ready c.args.later.now c.args.declared.now at line c.in-Value.value
    (entry_here c.args.later.now.entries.items at c.index.result.now (omega (arith, fit, listed)) c.index.ensures
    ∙ c.in-Value.is)
    c.in_ok-root_output-in-Value.field-0 c.in_ok-root_output-in-Value.ensures c.args.outputs.now.items
    c.push.new.self.items c.in_ok-push-in-Value.ensures.items

pub returns-in-Away : goal.returns-in-Away
returns-in-Away c =
    let at = c.in-Ok-Some.at in
    let line = found_some _ c.in-Ok-Some.field-0 at c.in-Ok-Some.field-0-is c.in-Ok-Some.ensures.found in
    let listed : at < length c.args.table.now.lines.items = line.listed in
    let fit : length c.args.later.now.entries.items ≡ length c.args.table.now.lines.items = c.requires.fit.entries in
    away_added c.args.table.now c.requires.ready c.args.later.now c.args.declared.now at line
    (entry_here c.args.later.now.entries.items at c.index.result.now (omega (arith, fit, listed)) c.index.ensures
    ∙ c.in-Away.is)
    c.args.outputs.now.items

pub unreachable-requires : goal.unreachable-requires
unreachable-requires c =
    let at = c.in-Ok-Some.at in
    let line = found_some _ c.in-Ok-Some.field-0 at c.in-Ok-Some.field-0-is c.in-Ok-Some.ensures.found in
    let listed : at < length c.args.table.now.lines.items = line.listed in
    let fit : length c.args.later.now.entries.items ≡ length c.args.table.now.lines.items = c.requires.fit.entries in
    never_missing c.args.table.now c.requires.ready c.args.later.now c.args.declared.now at line
    (entry_here c.args.later.now.entries.items at c.index.result.now (omega (arith, fit, listed)) c.index.ensures
    ∙ c.in-Missing.is)
    c.requires.there
