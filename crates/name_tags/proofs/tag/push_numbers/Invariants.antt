use Rattle.std.proofs.Common.{◌≡◌, ◌++◌, drop}
use Rattle.name_tags.proofs.tag.push_numbers.Given as goal

abbrev pub invariant-loop-number : goal.invariant-loop-number
invariant-loop-number l = l.tag.items ++ drop l.number-index l.numbers ≡ l.initial.tag.items ++ l.numbers
