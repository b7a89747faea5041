use Rattle.std.proofs.Common.{◌<◌, ℕ}
use Rattle.tag_needs.specs.Tags.{tags_in, IsShared}
use Rattle.tag_needs.specs.Numbers.{AreNumbers}
use Rattle.tag_needs.proofs.shared.find_shared.Given as goal

abbrev pub invariant-loop-number : goal.invariant-loop-number
invariant-loop-number l = record {
  numbers : AreNumbers l.numbers (tags_in l.tags);
  apart : (i j : ℕ) → i < l.number → IsShared (tags_in l.tags) i j → ⊥;
}
