use Rattle.std.proofs.Common.{drop}
use Rattle.tag_needs.proofs.NumberLemmas.{NumbersLeft}
use Rattle.tag_needs.proofs.needs.add_numbers.Given as goal

abbrev pub invariant-loop-number : goal.invariant-loop-number
invariant-loop-number l = NumbersLeft l.found l.initial.found (drop l.number-index l.numbers) l.numbers
