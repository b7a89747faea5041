use Rattle.std.proofs.Common.{◌≡◌, ◌++◌, drop}
use Rattle.tag_needs.specs.Tags.{tags_in, needs_from}
use Rattle.tag_needs.specs.Numbers.{AreNumbers}
use Rattle.tag_needs.proofs.needs.list_needs.Given as goal

abbrev pub invariant-loop-number : goal.invariant-loop-number
invariant-loop-number l = record {
  numbers : AreNumbers l.numbers (tags_in l.tags);
  listed : l.pairs.items ++ needs_from l.number (tags_in (drop l.number l.asks)) (tags_in l.tags)
      ≡ needs_from 0 (tags_in l.asks) (tags_in l.tags);
}
