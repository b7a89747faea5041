use Rattle.std.proofs.Common.{List, sym, subst}
use Rattle.measured_trees.specs.declared.measure.Measure.{Measure}
use Rattle.program_parts.specs.Measures.{AreOf, whole}
use Rattle.program_parts.proofs.measures.whole_measure.Goals as goal

pub returns-in-Ok : goal.returns-in-Ok
returns-in-Ok c =
    c.measure_at.ensures (whole c.args.parts.now 31)
    (subst (λ (ms : List Measure). AreOf (whole c.args.parts.now 31) ms) (sym c.as_slice.ensures.value)
    c.in-Ok.ensures)
