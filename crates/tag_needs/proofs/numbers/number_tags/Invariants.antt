use Rattle.std.proofs.Common.{drop}
use Rattle.tag_needs.proofs.NumberLemmas.{ThingsLeft}
use Rattle.tag_needs.proofs.numbers.number_tags.Given as goal

abbrev pub invariant-loop-number : goal.invariant-loop-number
invariant-loop-number l = ThingsLeft l.numbers l.number (drop l.number l.tags) l.tags
