use Rattle.std.proofs.Common.{sym, subst, ◌∙◌}
use Rattle.symbol_decorators.proofs.BatchLemmas.{Goes, begins, goes_on, ends, at_number}
use Rattle.symbol_decorators.proofs.loops.batches_of.Goals as goal

pub loop-symbol-init : goal.loop-symbol-init
loop-symbol-init c = subst (Goes c.args.symbols.now 0) (sym c.new-found.ensures.items) (begins c.args.symbols.now)

pub loop-symbol-preserved : goal.loop-symbol-preserved
loop-symbol-preserved c =
    goes_on c.args.symbols.now c.loop-symbol.symbol-index c.loop-symbol.found.items c.in_ok-found-in-Ok.found.items
    c.symbol-item.result c.in-Ok.batches c.loop-symbol-test.true c.symbol-item.is c.in-Ok.ensures.0 c.in-Ok.ensures.1
    c.in_ok-found-in-Ok.ensures c.loop-symbol.invariant

pub returns-in-Err-clause-fault : goal.returns-in-Err-clause-fault
returns-in-Err-clause-fault c =
    let i = c.loop-symbol.symbol-index in (
      i,
      (
        at_number c.args.symbols.now i c.symbol-item.result c.loop-symbol-test.true c.symbol-item.is
            ∙ c.in-Err.ensures.0,
        c.in-Err.ensures.1,
      ),
    )

pub returns-clause-batches : goal.returns-clause-batches
returns-clause-batches c =
    ends c.args.symbols.now c.loop-symbol.symbol-index c.loop-symbol.found.items c.loop-symbol-test.false
    c.loop-symbol.invariant
