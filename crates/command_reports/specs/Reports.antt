-- What an output has written of a report.
use Rattle.std.specs.Prelude.{◌≡◌, ◌⊎◌, ℕ, nat_le, Bool, true, List, ◌++◌, if◌then◌else◌}
use Rattle.arm_edges.specs.Faults.{Rose}
use Rattle.http_replies.specs.Sent.{IsPart}
use Rattle.command_reports.specs.declared.report.Report.{Report}

-- the status where the output failed: 5 in place of 0 to 3
abbrev pub status_unprinted : ℕ → ℕ
status_unprinted status = if nat_le status 3 then 5 else status

-- an output at a moment: whether outputs of its type report what was written, what was written, and the count of faults
pub record Output : Type 0 where
  pub tells : Bool
  pub written : List ℕ
  pub faults : ℕ

-- the output took the whole text, and the status is that of the report
pub record Printed (before now : Output) (r : Report) (status : ℕ) : Type 0 where
  pub reported : status ≡ r.status
  pub faults : now.faults ≡ before.faults
  pub whole : before.tells ≡ true → now.written ≡ before.written ++ r.text

-- the output failed after a beginning of the text, and 5 replaces a status of 0 to 3
pub record CutShort (before now : Output) (r : Report) (status : ℕ) : Type 0 where
  pub replaced : status ≡ status_unprinted r.status
  pub fault : Rose before.faults now.faults
  pub part : before.tells ≡ true → IsPart before.written r.text now.written

-- the report was given to the output, and the program ends with this status
abbrev pub Reported : Output → Output → Report → ℕ → Type 0
Reported before now r status = Printed before now r status ⊎ CutShort before now r status
