use Rattle.std.proofs.Common.{◌≡◌, ◌<◌, ℕ, None, slice_index_or}
use Rattle.driver_loop.proofs.open_job.has_no_job.Given as goal

abbrev pub invariant-loop-opened : goal.invariant-loop-opened
invariant-loop-opened l = (k : ℕ) → k < l.opened-index → slice_index_or l.opens k None ≡ None
