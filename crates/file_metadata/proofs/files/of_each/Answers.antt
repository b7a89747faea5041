use Rattle.std.proofs.Common.{sym, subst}
use Rattle.file_metadata.proofs.LoopLemmas.{Goes, begins, goes_on, ends, nests}
use Rattle.file_metadata.proofs.files.of_each.Goals as goal

pub loop-decorated-init : goal.loop-decorated-init
loop-decorated-init c = subst (Goes c.args.all.now 0) (sym c.new-found.ensures.items) (begins c.args.all.now)

pub metadata-requires : goal.metadata-requires
metadata-requires c =
    nests c.args.all.now c.requires c.loop-decorated.decorated-index c.decorated-item.result c.loop-decorated-test.true
    c.decorated-item.is

pub loop-decorated-preserved : goal.loop-decorated-preserved
loop-decorated-preserved c =
    goes_on c.args.all.now c.loop-decorated.decorated-index c.loop-decorated.found.items
    c.in_ok-found-in-Ok.found.items c.decorated-item.result c.in-Ok.metadata c.loop-decorated-test.true
    c.decorated-item.is c.in-Ok.ensures c.in_ok-found-in-Ok.ensures c.loop-decorated.invariant

pub returns : goal.returns
returns c =
    ends c.args.all.now c.loop-decorated.decorated-index c.loop-decorated.found.items c.loop-decorated-test.false
    c.loop-decorated.invariant
