use Rattle.measured_trees.specs.Extremes.{enclosed}
use Rattle.program_parts.proofs.measures.inside.Goals as goal

pub returns : goal.returns
returns c = λ x h.
    c.enclosed-4.ensures (enclosed (enclosed (enclosed x)))
    (c.enclosed-3.ensures (enclosed (enclosed x)) (c.enclosed-2.ensures (enclosed x) (c.enclosed.ensures x h)))
