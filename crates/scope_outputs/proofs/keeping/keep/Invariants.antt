use Rattle.std.proofs.Common.{drop, length}
use Rattle.scope_outputs.proofs.KeepLemmas.{IsSoFar}
use Rattle.scope_outputs.proofs.keeping.keep.Given as goal

abbrev pub invariant-loop-noted : goal.invariant-loop-noted
invariant-loop-noted l =
    IsSoFar l.fn.later l.later l.fn.told.items l.yielded (drop (length l.yielded) l.fn.told.items)
