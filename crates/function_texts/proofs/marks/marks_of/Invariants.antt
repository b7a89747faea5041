use Rattle.std.proofs.Common.{take}
use Rattle.function_texts.specs.Search.{AreMarks}
use Rattle.function_texts.proofs.SplitLemmas.{spelled}
use Rattle.function_texts.proofs.marks.marks_of.Given as goal

abbrev pub invariant-loop-delimiter : goal.invariant-loop-delimiter
invariant-loop-delimiter l = AreMarks (spelled (take l.delimiter-index l.delimiters)) l.text l.marks.items
