use Rattle.std.proofs.Common.{drop}
use Rattle.tag_holders.specs.Holders.{classes_in}
use Rattle.tag_holders.proofs.HolderLemmas.{ThingsLeft}
use Rattle.tag_holders.proofs.holders.holders_of.Given as goal

abbrev pub invariant-loop-number : goal.invariant-loop-number
invariant-loop-number l =
    ThingsLeft (classes_in l.classes) l.holders l.number (drop l.number l.tags) l.tags
