use Rattle.std.proofs.Common.{subst}
use Rattle.measured_trees.specs.Measures.{IsOf}
use Rattle.file_limits.specs.Extremes.{plain, value_depth}
use Rattle.file_limits.proofs.measured.measured_metadata.Goals as goal

pub returns : goal.returns
returns c =
    c.enclosed.ensures (plain (value_depth c.args.metadata.now))
    (subst (λ n. IsOf (plain n) c.plain_measure.result) c.value_depth.ensures c.plain_measure.ensures)
