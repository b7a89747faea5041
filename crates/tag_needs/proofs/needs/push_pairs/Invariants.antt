use Rattle.std.proofs.Common.{◌≡◌, ◌++◌}
use Rattle.tag_needs.specs.Tags.{pairs_of}
use Rattle.tag_needs.proofs.needs.push_pairs.Given as goal

abbrev pub invariant-loop-need : goal.invariant-loop-need
invariant-loop-need l = l.pairs.items ++ pairs_of l.number l.need-iterator
    ≡ l.initial.pairs.items ++ pairs_of l.number l.needs.keys
