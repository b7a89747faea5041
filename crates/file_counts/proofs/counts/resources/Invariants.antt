use Rattle.std.proofs.Common.{length, map}
use Rattle.bicep_declared.specs.View.{declared_tree}
use Rattle.file_counts.specs.Counts.{is_put_at}
use Rattle.file_counts.proofs.CountLemmas.{Counted}
use Rattle.file_counts.proofs.counts.resources.Given as goal

abbrev pub invariant-loop-number : goal.invariant-loop-number
invariant-loop-number l =
    Counted (is_put_at (map declared_tree l.declarations)) (length l.declarations) l.number l.total
