use Rattle.scope_entries.proofs.RoundLemmas.{IsSoFar}
use Rattle.scope_entries.proofs.settling.tell_each.Given as goal

abbrev pub invariant-lines : goal.invariant-lines
invariant-lines l =
    IsSoFar l.on l.register.table l.frame l.fn.later l.later l.pending l.at-index l.left.items
