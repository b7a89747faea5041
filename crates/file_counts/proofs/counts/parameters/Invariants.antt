use Rattle.std.proofs.Common.{length, map}
use Rattle.bicep_symbols.specs.Entries.{symbol_of}
use Rattle.file_counts.specs.Counts.{is_parameter_at}
use Rattle.file_counts.proofs.CountLemmas.{Counted}
use Rattle.file_counts.proofs.counts.parameters.Given as goal

abbrev pub invariant-loop-number : goal.invariant-loop-number
invariant-loop-number l = Counted (is_parameter_at (map symbol_of l.entries)) (length l.entries) l.number l.total
