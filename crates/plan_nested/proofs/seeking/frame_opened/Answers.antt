use Rattle.plan_sight.proofs.LookLemmas.{found_some}
use Rattle.plan_nested.proofs.SeekLemmas.{opened_by, no_line}
use Rattle.plan_nested.proofs.seeking.frame_opened.Goals as goal

pub returns : goal.returns
returns c =
    opened_by c.args.table.now c.args.frame c.requires.ready c.requires.there c.args.resource c.args.copy c.in-Some.at
    c.index.result.now c.requires.included
    (found_some _ c.in_ok-line.line c.in-Some.at c.in-Some.is c.in_ok-line.ensures.found) c.index.ensures

pub unreachable-requires : goal.unreachable-requires
unreachable-requires c =
    no_line c.args.table.now c.args.frame c.requires.ready c.requires.there c.args.resource c.args.copy
    c.in_ok-line.line c.requires.included c.in-None.is c.in_ok-line.ensures.missing
