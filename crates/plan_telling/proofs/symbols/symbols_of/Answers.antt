use Rattle.std.proofs.Common.{map}
use Rattle.plan_telling.specs.Symbols.{symbolic}
use Rattle.plan_telling.proofs.SymbolLemmas.{symbols_more, symbols_end}
use Rattle.plan_telling.proofs.symbols.symbols_of.Goals as goal

pub loop-listed-preserved : goal.loop-listed-preserved
loop-listed-preserved c =
    symbols_more (map symbolic c.loop-listed.symbols.items) _ c.args.resources.now c.loop-listed.listed-index _
    c.listed-item.result _ c.loop-listed-test.true c.listed-item.is c.in-Ok.ensures
    c.in_ok-push_symbolic-in-Ok.ensures c.loop-listed.invariant

pub returns : goal.returns
returns c =
    symbols_end (map symbolic c.loop-listed.symbols.items) (map symbolic c.loop-listed.symbols.items)
    c.args.resources.now c.loop-listed.listed-index _ c.loop-listed-test.false c.loop-listed.invariant
