use Rattle.std.proofs.Common.{◌≡◌, map, take}
use Rattle.arm_eval.specs.Titles.{unnamed}
use Rattle.arm_eval.specs.Words.{listed_in}
use Rattle.arm_eval.proofs.titles.unnamed.Given as goal

abbrev pub invariant-loop-symbol : goal.invariant-loop-symbol
invariant-loop-symbol l = map listed_in l.list.items ≡ map unnamed (take l.symbol-index l.symbols)
