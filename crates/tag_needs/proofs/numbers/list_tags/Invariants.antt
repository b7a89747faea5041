use Rattle.std.proofs.Common.{drop}
use Rattle.tag_needs.proofs.NumberLemmas.{TagsLeft}
use Rattle.tag_needs.proofs.numbers.list_tags.Given as goal

abbrev pub invariant-loop-tag : goal.invariant-loop-tag
invariant-loop-tag l = TagsLeft l.numbers l.initial.numbers l.number (drop l.tag-index l.tags) l.tags
