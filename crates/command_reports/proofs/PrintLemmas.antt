-- What was printed, and the status.
use Rattle.std.proofs.Common.{◌≡◌, ℕ, Bool, List, Result, Ok, Err, is_ok, if◌then◌else◌, inl, inr, subst}
use Rattle.arm_edges.specs.Faults.{HasCause}
use Rattle.arm_edges.specs.declared.faults.Failed.{Failed}
use Rattle.http_replies.specs.Sent.{Sent}
use Rattle.command_reports.specs.Reports.{Output, Reported, status_unprinted}
use Rattle.command_reports.specs.declared.report.Report.{Report}

pub reported : (before now : Output) (r : Report) (status : ℕ) (result : Result (Unit {0}) Failed)
    → Sent before.tells before.written now.written r.text result → HasCause before.faults now.faults result
    → status ≡ (if is_ok result then r.status else status_unprinted r.status) → Reported before now r status
reported before now r status (Ok done) sent cause is =
    inl (record { reported = is; faults = cause.stays; whole = sent })
reported before now r status (Err failed) sent cause is =
    inr (record { replaced = is; fault = cause.failed; part = sent })

-- what was sent of a text was sent of an equal one
pub sent_so : (tells : Bool) (old new a b : List ℕ) (result : Result (Unit {0}) Failed) → a ≡ b
    → Sent tells old new a result → Sent tells old new b result
sent_so tells old new a b result e h = subst (λ (t : List ℕ). Sent tells old new t result) e h
