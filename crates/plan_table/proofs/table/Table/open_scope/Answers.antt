use Rattle.std.proofs.Common.{◌≡◌, ap, length, rules, Vec, Global}
use Rattle.plan_table.specs.declared.line.Line.{Line}
use Rattle.plan_table.specs.Opened.{opened_at, inside_of, nested_view}
use Rattle.plan_table.specs.Whole.{whole_of, scopes_of}
use Rattle.plan_table.proofs.OpenLemmas.{scope_ready, scope_indexed, whole_same, scope_laid, scope_rows}
use Rattle.plan_table.specs.Counted.{numbers_of}
use Rattle.plan_table.proofs.CountLemmas.{scope_counted}
use Rattle.plan_table.proofs.table.Table.open_scope.Goals as goal

pub list_after-requires-clause-placed : goal.list_after-requires-clause-placed
list_after-requires-clause-placed c =
    scope_ready c.args.self.now.frames.items c.add_frame.new.self.frames.items c.as_slice-frames.result.now
    (inside_of c.args.around (length c.args.self.now.frames.items)
    (opened_at (scopes_of c.args.self.now) c.args.around) c.requires.opens.0 c.args.instance.resource
    c.args.instance.copy (nested_view c.args.deployment.now)) c.in-Ok.spots.items c.as_slice-listed.result.now
    (c.in-Ok.ensures.added c.requires.opens.0 c.requires.opens.1.0) c.as_slice-frames.ensures.value
    c.as_slice-listed.ensures.value c.in-Ok.ensures.spots

pub list_after-requires-clause-indexed : goal.list_after-requires-clause-indexed
list_after-requires-clause-indexed c =
    scope_indexed (whole_of c.args.self.now) c.args.self.now.frames.items c.add_frame.new.self.frames.items
    c.as_slice-frames.result.now
    (inside_of c.args.around (length c.args.self.now.frames.items)
    (opened_at (scopes_of c.args.self.now) c.args.around) c.requires.opens.0 c.args.instance.resource
    c.args.instance.copy (nested_view c.args.deployment.now)) c.args.self.now.index c.add_frame.new.self.index
    c.args.self.now.lines.items c.add_frame.new.self.lines.items c.requires.laid
    (c.in-Ok.ensures.added c.requires.opens.0 c.requires.opens.1.0) c.as_slice-frames.ensures.value
    c.in-Ok.ensures.index (ap (λ (ls : Vec Line Global). ls.items) c.in-Ok.ensures.lines)

pub returns-in-Ok-clause-laid : goal.returns-in-Ok-clause-laid
returns-in-Ok-clause-laid c =
    let count : c.len-number.result ≡ length c.args.self.now.frames.items = search rules in
    scope_laid (whole_of c.args.self.now) (whole_of c.add_frame.new.self) c.args.self.now.frames.items
    c.add_frame.new.self.frames.items c.as_slice-frames.result.now c.args.self.now.index c.list_after.new.index
    c.args.self.now.lines.items c.add_frame.new.self.lines.items c.list_after.new.lines.items c.args.at c.args.around
    c.args.instance.resource c.args.instance.copy c.len-number.result c.args.value c.requires.opens.0
    (nested_view c.args.deployment.now) c.in-Ok.spots.items c.as_slice-listed.result.now
    (whole_same c.add_frame.new.self c.args.self.now c.in-Ok.ensures.template c.in-Ok.ensures.bound
    c.in-Ok.ensures.place) c.requires.laid c.requires.listed c.requires.spot c.requires.included c.requires.opens.1.0
    c.requires.opens.1.1 (c.in-Ok.ensures.added c.requires.opens.0 c.requires.opens.1.0) count
    c.as_slice-frames.ensures.value c.as_slice-listed.ensures.value c.in-Ok.ensures.spots
    (ap (λ (ls : Vec Line Global). ls.items) c.in-Ok.ensures.lines) c.list_after.result c.list_after.ensures.listed
    c.list_after.ensures.indexed

pub returns-in-Ok-clause-filled : goal.returns-in-Ok-clause-filled
returns-in-Ok-clause-filled c =
    let count : c.len-number.result ≡ length c.args.self.now.frames.items = search rules in
    scope_rows (whole_of c.args.self.now) (whole_of c.add_frame.new.self) c.args.self.now.frames.items
    c.add_frame.new.self.frames.items c.as_slice-frames.result.now c.args.self.now.index c.list_after.new.index
    c.args.self.now.lines.items c.add_frame.new.self.lines.items c.list_after.new.lines.items c.args.at c.args.around
    c.args.instance.resource c.args.instance.copy c.len-number.result c.args.value c.requires.opens.0
    (nested_view c.args.deployment.now) c.in-Ok.spots.items c.as_slice-listed.result.now
    (whole_same c.add_frame.new.self c.args.self.now c.in-Ok.ensures.template c.in-Ok.ensures.bound
    c.in-Ok.ensures.place) c.requires.laid c.requires.listed c.requires.spot c.requires.included c.requires.opens.1.0
    c.requires.opens.1.1 (c.in-Ok.ensures.added c.requires.opens.0 c.requires.opens.1.0) count
    c.as_slice-frames.ensures.value c.as_slice-listed.ensures.value c.in-Ok.ensures.spots
    (ap (λ (ls : Vec Line Global). ls.items) c.in-Ok.ensures.lines) c.list_after.result c.list_after.ensures.listed
    c.list_after.ensures.indexed

pub returns-in-Ok-clause-counted : goal.returns-in-Ok-clause-counted
returns-in-Ok-clause-counted c =
    scope_counted c.list_after.result (whole_of c.args.self.now) (scopes_of c.args.self.now)
    (scopes_of c.add_frame.new.self) c.args.self.now.index c.args.self.now.lines.items
    c.add_frame.new.self.lines.items c.list_after.new.lines.items c.args.at c.args.around c.args.instance.resource
    c.args.instance.copy c.len-number.result c.args.value
    (inside_of c.args.around (length c.args.self.now.frames.items)
    (opened_at (scopes_of c.args.self.now) c.args.around) c.requires.opens.0 c.args.instance.resource
    c.args.instance.copy (nested_view c.args.deployment.now)) c.as_slice-listed.result.now
    (numbers_of c.args.self.now) (numbers_of c.add_frame.new.self) c.requires.laid c.requires.listed
    c.requires.unfinished c.requires.spot (c.in-Ok.ensures.added c.requires.opens.0 c.requires.opens.1.0)
    (ap (λ (ls : Vec Line Global). ls.items) c.in-Ok.ensures.lines) c.in-Ok.ensures.counts c.in-Ok.ensures.instances
    c.requires.counted c.list_after.ensures.listed
