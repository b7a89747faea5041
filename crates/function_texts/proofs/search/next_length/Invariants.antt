use Rattle.std.proofs.Common.{◌<◌, length}
use Rattle.function_texts.proofs.SearchLemmas.{Left}
use Rattle.function_texts.proofs.search.next_length.Given as goal

-- no longer end of what was read goes on
abbrev pub invariant-shorter : goal.invariant-shorter
invariant-shorter l = record {
  left : Left l.part l.before l.character l.length;
  known : l.length < length l.borders;
}

abbrev pub decreases-shorter : goal.decreases-shorter
decreases-shorter l = l.length
