use Rattle.std.proofs.Common.{length}
use Rattle.file_limits.proofs.OverLemmas.{SoFarWith}
use Rattle.file_limits.specs.Extremes.{declaration_extremes}
use Rattle.file_limits.proofs.measured.measured_declarations.Given as goal

-- what the declarations before take
abbrev pub invariant-loop-number : goal.invariant-loop-number
invariant-loop-number l =
    SoFarWith l.inner (λ x. declaration_extremes l.form l.table l.rules l.metadata x) (length l.declarations) l.number
    l.all
