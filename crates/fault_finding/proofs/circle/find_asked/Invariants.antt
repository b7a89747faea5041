use Rattle.std.proofs.Common.{◌≡◌, false, drop}
use Rattle.reading.specs.World.{Each}
use Rattle.plan_filling.specs.Rows.{row_at}
use Rattle.plan_table.specs.Whole.{rows_in}
use Rattle.plan_tasks.specs.Answered.{is_asked}
use Rattle.fault_finding.proofs.circle.find_asked.Given as goal

abbrev pub invariant-places : goal.invariant-places
invariant-places l =
    Each (λ at. is_asked (row_at (rows_in l.table) at).cell ≡ false) (drop l.at-index l.round)
    → Each (λ at. is_asked (row_at (rows_in l.table) at).cell ≡ false) l.round
