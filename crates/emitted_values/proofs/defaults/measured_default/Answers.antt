use Rattle.std.proofs.Common.{[], subst}
use Rattle.std.specs.Prelude.{IfOk}
use Rattle.bicep_resolved.specs.View.{source_of}
use Rattle.measured_trees.specs.Extremes.{tree_extremes}
use Rattle.measured_trees.specs.Measures.{IsOf}
use Rattle.emitted_values.proofs.defaults.measured_default.Goals as goal

pub returns : goal.returns
returns c =
    subst (λ x. IfOk c.tree_measure.result (IsOf (tree_extremes x)))
    (c.tables_give_trees.ensures c.args.table.now c.requires.filled c.requires.sound (source_of c.args.e.now) [])
    (c.tree_measure.ensures [] tt)
