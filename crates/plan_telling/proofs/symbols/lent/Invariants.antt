use Rattle.std.proofs.Common.{◌≡◌, map, take}
use Rattle.arm_eval.specs.Words.{listed_in}
use Rattle.plan_telling.specs.Symbols.{symbolic}
use Rattle.plan_telling.proofs.symbols.lent.Given as goal

abbrev pub invariant-loop-symbol : goal.invariant-loop-symbol
invariant-loop-symbol l = map listed_in l.list.items ≡ map symbolic (take l.symbol-index l.symbols)
