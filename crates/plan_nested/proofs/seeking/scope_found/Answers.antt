use Rattle.plan_nested.proofs.SeekLemmas.{included_here, leads_there, numbered}
use Rattle.plan_nested.proofs.seeking.scope_found.Goals as goal

pub frame_opened-requires-clause-included : goal.frame_opened-requires-clause-included
frame_opened-requires-clause-included c =
    included_here c.args.table.now c.args.frame c.requires.ready c.requires.there c.index.result.now
    c.as_slice.result.now c.index.ensures c.as_slice.ensures.value c.args.number c.args.copy c.requires.found
    c.in-Some.resource c.in-Some.ensures

pub returns : goal.returns
returns c =
    leads_there c.args.table.now c.args.frame c.requires.ready c.requires.there c.index.result.now
    c.as_slice.result.now c.index.ensures c.as_slice.ensures.value c.args.number c.args.copy c.requires.found
    c.in-Some.resource c.frame_opened.result c.in-Some.ensures c.frame_opened.ensures

pub unreachable-requires : goal.unreachable-requires
unreachable-requires c =
    numbered c.args.table.now c.args.frame c.requires.ready c.requires.there c.index.result.now
    c.as_slice.result.now c.index.ensures c.as_slice.ensures.value c.args.number c.args.copy c.requires.found
    c.in-None.ensures
