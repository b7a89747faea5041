use Rattle.std.proofs.Common.{◌<◌, length}
use Rattle.function_texts.specs.Search.{IsLongest, HasNotBegun}
use Rattle.function_texts.proofs.search.first_with.Given as goal

abbrev pub invariant-loop-i : goal.invariant-loop-i
invariant-loop-i l = record {
  longest : IsLongest l.part l.text l.i (length l.part) l.length;
  some : 0 < length l.part;
  not_begun : HasNotBegun l.part l.text l.i;
}
