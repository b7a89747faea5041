use Rattle.std.proofs.Common.{◌≡◌, ◌<◌, ℕ, true}
use Rattle.plan_table.specs.Rows.{row_at}
use Rattle.plan_table.specs.Whole.{rows_in}
use Rattle.plan_tasks.specs.Answered.{is_answered}
use Rattle.plan_tasks.proofs.answered.find_unanswered.Given as goal

abbrev pub invariant-lines : goal.invariant-lines
invariant-lines l = (i : ℕ) → i < l.at → is_answered (row_at (rows_in l.table) i) ≡ true
