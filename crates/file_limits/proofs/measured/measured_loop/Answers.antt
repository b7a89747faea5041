use Rattle.std.proofs.Common.{sym, subst}
use Rattle.std.specs.Prelude.{option_map}
use Rattle.bicep_resolved.specs.View.{loop_of}
use Rattle.measured_trees.specs.Extremes.{nothing}
use Rattle.measured_trees.specs.Measures.{IsOf}
use Rattle.file_limits.specs.Extremes.{loop_extremes}
use Rattle.file_limits.proofs.measured.measured_loop.Goals as goal

pub returns-in-Some : goal.returns-in-Some
returns-in-Some c =
    subst (λ o. IsOf (loop_extremes (option_map loop_of o)) c.enclosed.result) (sym c.in-Some.is)
    (c.enclosed.ensures nothing c.nothing.ensures.nothing)
