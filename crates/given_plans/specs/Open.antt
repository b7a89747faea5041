-- Whether a Begin of a task is open.
use Rattle.std.specs.Prelude.{ℕ, Bool, true, false}
use Rattle.deploy_histories.specs.Events.{Status, is_waiting, is_begun, is_done, Progress}

abbrev pub is_open_status : Status → Bool
is_open_status is_waiting = false
is_open_status (is_begun worker body) = true
is_open_status (is_done o) = false

abbrev pub is_open_now : Progress → ℕ → Bool
is_open_now p u = is_open_status (p.status u)
