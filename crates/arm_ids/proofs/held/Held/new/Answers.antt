use Rattle.std.proofs.Common.{subst, sym}
use Rattle.arm_ids.specs.Row.{AreRows}
use Rattle.arm_ids.proofs.RowLemmas.{no_rows}
use Rattle.arm_ids.proofs.held.Held.new.Goals as goal

pub invariant_of-result : goal.invariant_of-result
invariant_of-result c = subst AreRows (sym c.new.ensures.items) no_rows
