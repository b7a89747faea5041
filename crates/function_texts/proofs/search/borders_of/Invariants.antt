use Rattle.std.proofs.Common.{◌≡◌, ◌+◌, length}
use Rattle.function_texts.specs.Search.{AreBorders}
use Rattle.function_texts.proofs.search.borders_of.Given as goal

abbrev pub invariant-loop-i : goal.invariant-loop-i
invariant-loop-i l = record {
  borders : AreBorders l.part l.borders.items;
  count : length l.borders.items ≡ l.i + 1;
}
