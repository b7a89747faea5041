use Rattle.std.proofs.Common.{length}
use Rattle.function_texts.specs.Search.{IsLongest, IsLastBegun}
use Rattle.function_texts.proofs.search.last_with.Given as goal

abbrev pub invariant-loop-i : goal.invariant-loop-i
invariant-loop-i l = record {
  longest : IsLongest l.part l.text l.i (length l.part) l.length;
  last : IsLastBegun l.part l.text l.i l.found;
}
