use Rattle.std.proofs.Common.{drop}
use Rattle.tag_needs.proofs.NumberLemmas.{OnceLeft}
use Rattle.tag_needs.proofs.needs.each_once.Given as goal

abbrev pub invariant-loop-tag : goal.invariant-loop-tag
invariant-loop-tag l = OnceLeft l.set (drop l.tag-index l.tags) l.tags
