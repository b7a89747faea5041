-- Whether the tree has failed, by its count of faults.
use Rattle.std.specs.Prelude.{◌≡◌, ◌⊎◌, ℕ, Result, IfOk}
use Rattle.std.specs.declared.alloc.AllocError.{AllocError}
use Rattle.arm_edges.specs.Faults.{Rose}
use Rattle.command_reports.specs.Faults.{fault_report}
use Rattle.command_reports.specs.declared.faults.Fault.TheVariants.{Tree}
use Rattle.command_reports.specs.declared.report.Report.{Report}

-- the count rose, and this is reported; or it is unchanged, and something else is
abbrev pub CountsTree : ℕ → ℕ → Result Report AllocError → Type 0
CountsTree before now r =
    ((now ≡ before) × IfOk r (λ p. ¬ (p.status ≡ 4))) ⊎ (Rose before now × IfOk r (λ p. p ≡ fault_report Tree))
