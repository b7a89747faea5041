use Rattle.plan_table.specs.Opened.{opened_of}
use Rattle.plan_table.specs.Whole.{scopes_of}
use Rattle.plan_table.proofs.OpenLemmas.{root_ready, begun_laid, begun_rows}
use Rattle.plan_table.proofs.CountLemmas.{begun_counted}
use Rattle.plan_table.proofs.begun.begin_table.Goals as goal

pub list_root-requires-clause-placed : goal.list_root-requires-clause-placed
list_root-requires-clause-placed c =
    root_ready (scopes_of c.in_ok-table-in-Ok.table) (opened_of c.in_ok-frame.frame) c.in-Ok.spots.items
    c.as_slice.result.now c.in_ok-table-in-Ok.ensures.frame c.as_slice.ensures.value c.in-Ok.ensures

pub returns-clause-laid : goal.returns-clause-laid
returns-clause-laid c =
    begun_laid c.list_root.result c.in_ok-table-in-Ok.table c.args.template.now (opened_of c.in_ok-frame.frame)
    c.in-Ok.spots.items c.as_slice.result.now c.list_root.ensures.template c.list_root.ensures.frames
    c.list_root.ensures.lines c.list_root.ensures.indexed c.in_ok-table-in-Ok.ensures.template
    c.in_ok-table-in-Ok.ensures.frame c.in_ok-frame.ensures c.as_slice.ensures.value c.in-Ok.ensures

pub returns-clause-rows : goal.returns-clause-rows
returns-clause-rows c =
    begun_rows c.list_root.result c.in_ok-table-in-Ok.table c.args.template.now (opened_of c.in_ok-frame.frame)
    c.in-Ok.spots.items c.as_slice.result.now c.list_root.ensures.template c.list_root.ensures.frames
    c.list_root.ensures.lines c.list_root.ensures.indexed c.in_ok-table-in-Ok.ensures.template
    c.in_ok-table-in-Ok.ensures.frame c.in_ok-frame.ensures c.as_slice.ensures.value c.in-Ok.ensures

pub returns-clause-counted : goal.returns-clause-counted
returns-clause-counted c =
    begun_counted c.list_root.result c.in_ok-table-in-Ok.table (opened_of c.in_ok-frame.frame) c.as_slice.result.now
    c.list_root.ensures.frames c.in_ok-table-in-Ok.ensures.frame c.list_root.ensures.lines
    c.list_root.ensures.counts c.list_root.ensures.instances c.in_ok-table-in-Ok.ensures.counts
    c.in_ok-table-in-Ok.ensures.instances
