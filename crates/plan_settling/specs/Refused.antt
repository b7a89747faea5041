-- The rows of a sheet for which there is no plan.
use Rattle.std.specs.Prelude.{◌≡◌, ℕ, ◌<◌, ◌&&◌, Bool, true, false, List, length, if◌then◌else◌}
use Rattle.plan_filling.specs.Rows.{Status, Empty, Late, Row, row_at}
use Rattle.plan_refusals.specs.Refusals.{is_needed}
use Rattle.plan_tasks.specs.Answered.{is_asked}

abbrev pub is_late : Status → Bool
is_late (Late k) = true
is_late _ = false

abbrev pub is_empty : Status → Bool
is_empty Empty = true
is_empty _ = false

-- a count, a condition or a name that waits for a state; or one of these, a parameter or a variable without a value
abbrev pub is_refused : Row → Bool
is_refused r = if is_late r.status then is_asked r.cell else is_empty r.status && is_needed r.cell

-- there is no such row
abbrev pub AreSettled : List Row → Type 0
AreSettled rows = (j : ℕ) → j < length rows → is_refused (row_at rows j) ≡ false
