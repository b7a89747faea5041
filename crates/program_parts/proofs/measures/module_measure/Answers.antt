use Rattle.std.proofs.Common.{sym, ◌∙◌, subst}
use Rattle.measured_trees.specs.Measures.{IsOf}
use Rattle.program_parts.specs.Measures.{by_file}
use Rattle.program_parts.proofs.measures.module_measure.Goals as goal

pub returns-in-Some : goal.returns-in-Some
returns-in-Some c = λ x h.
    subst (λ o. IsOf (by_file x o) c.inside.result) (sym c.in-Some.is ∙ c.module_number.ensures)
    (c.inside.ensures (x c.in-Some.number) (c.measure_at.ensures x h))

pub returns-in-None : goal.returns-in-None
returns-in-None c = λ x h.
    subst (λ o. IsOf (by_file x o) c.nothing.result) (sym c.in-None.is ∙ c.module_number.ensures)
    c.nothing.ensures.nothing
