use Rattle.std.proofs.Common.{drop}
use Rattle.tag_holders.specs.Holders.{classes_in}
use Rattle.tag_holders.proofs.HolderLemmas.{AsksLeft}
use Rattle.tag_holders.proofs.find.find_holders.Given as goal

abbrev pub invariant-loop-ask : goal.invariant-loop-ask
invariant-loop-ask l = AsksLeft (classes_in l.classes) l.holders l.found (drop l.ask-index l.asks) l.asks
