use Rattle.std.proofs.Common.{length}
use Rattle.function_texts.specs.Search.{IsLongest, AreMarkedBefore}
use Rattle.function_texts.proofs.marks.mark_with.Given as goal

abbrev pub invariant-loop-i : goal.invariant-loop-i
invariant-loop-i l = record {
  longest : IsLongest l.part l.text l.i (length l.part) l.length;
  marked : AreMarkedBefore l.part l.text l.i l.fn.marks l.marks;
}
