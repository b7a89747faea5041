use Rattle.plan_table.specs.Whole.{whole_of}
use Rattle.plan_table.proofs.OpenLemmas.{instances_ready, instances_laid, instances_rows}
use Rattle.plan_table.specs.Whole.{scopes_of}
use Rattle.plan_table.specs.Lines.{with_state}
use Rattle.plan_table.specs.declared.line.State.TheVariants as how
use Rattle.plan_table.specs.Counted.{numbers_of}
use Rattle.plan_table.proofs.CountLemmas.{joined_counted}
use Rattle.plan_table.proofs.table.Table.list_instances.Goals as goal

pub list_after-requires-clause-placed : goal.list_after-requires-clause-placed
list_after-requires-clause-placed c =
    instances_ready (whole_of c.args.self.now) c.args.self.now.frames.items c.as_slice-frames.result.now
    c.args.self.now.index c.args.self.now.lines.items c.args.at c.args.frame c.args.resource c.args.count
    c.in-Ok.spots.items c.as_slice-listed.result.now c.requires.laid c.requires.listed c.requires.spot c.requires.few
    c.as_slice-frames.ensures.value c.as_slice-listed.ensures.value c.in-Ok.ensures

pub returns-in-Ok-clause-laid : goal.returns-in-Ok-clause-laid
returns-in-Ok-clause-laid c =
    instances_laid (whole_of c.args.self.now) c.args.self.now.frames.items c.as_slice-frames.result.now
    c.args.self.now.index c.list_after.new.index c.args.self.now.lines.items c.list_after.new.lines.items c.args.at
    c.args.frame c.args.resource c.args.count c.args.value c.in-Ok.spots.items c.as_slice-listed.result.now
    c.requires.laid c.requires.listed c.requires.spot c.requires.number c.requires.few
    c.as_slice-frames.ensures.value c.as_slice-listed.ensures.value c.in-Ok.ensures c.list_after.result
    c.list_after.ensures.listed c.list_after.ensures.indexed

pub returns-in-Ok-clause-filled : goal.returns-in-Ok-clause-filled
returns-in-Ok-clause-filled c =
    instances_rows (whole_of c.args.self.now) c.args.self.now.frames.items c.as_slice-frames.result.now
    c.args.self.now.index c.list_after.new.index c.args.self.now.lines.items c.list_after.new.lines.items c.args.at
    c.args.frame c.args.resource c.args.count c.args.value c.in-Ok.spots.items c.as_slice-listed.result.now
    c.requires.laid c.requires.listed c.requires.spot c.requires.number c.requires.few
    c.as_slice-frames.ensures.value c.as_slice-listed.ensures.value c.in-Ok.ensures c.list_after.result
    c.list_after.ensures.listed c.list_after.ensures.indexed

pub returns-in-Ok-clause-counted : goal.returns-in-Ok-clause-counted
returns-in-Ok-clause-counted c =
    joined_counted c.list_after.result (scopes_of c.args.self.now)
    (with_state c.args.self.now.lines.items c.args.at (how.Value c.args.value) 0) c.list_after.new.lines.items
    c.as_slice-listed.result.now (numbers_of c.args.self.now) c.requires.counted c.list_after.ensures.listed
