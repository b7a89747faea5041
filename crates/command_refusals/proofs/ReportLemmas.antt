-- Reports of refusals whose details are equal.
use Rattle.std.proofs.Common.{◌≡◌, ℕ, List, subst}
use Rattle.std.specs.Prelude.{Result, IfOk}
use Rattle.std.specs.declared.alloc.AllocError.{AllocError}
use Rattle.command_reports.specs.declared.report.Report.{Report}

-- what holds of one text holds of an equal one
pub report_so : (r : Result Report AllocError) (f : List ℕ → Report) (a b : List ℕ) → a ≡ b → IfOk r (λ t. t ≡ f a)
    → IfOk r (λ t. t ≡ f b)
report_so r f a b e h = subst (λ (d : List ℕ). IfOk r (λ t. t ≡ f d)) e h
