use Rattle.std.proofs.Common.{vec_len}
use Rattle.scope_entries.specs.Entries.{Goes, AreOwnLines, AreCovered}
use Rattle.scope_entries.proofs.settling.settle_lines.Given as goal

abbrev pub invariant-rounds : goal.invariant-rounds
invariant-rounds l = record {
  goes : Goes l.register.table l.fn.later l.later;
  own : AreOwnLines l.register.table l.frame l.pending.items;
  covered : AreCovered l.on l.register.table l.later l.frame l.pending.items;
}

abbrev pub decreases-rounds : goal.decreases-rounds
decreases-rounds l = vec_len l.pending
