use Rattle.std.proofs.Common.{option_map, subst}
use Rattle.std.specs.Prelude.{IfOk}
use Rattle.bicep_resolved.specs.View.{value_of}
use Rattle.measured_trees.specs.Extremes.{value_extremes}
use Rattle.measured_trees.specs.Measures.{IsOf}
use Rattle.emitted_values.proofs.contents.measured_content.Goals as goal

pub returns : goal.returns
returns c = λ fs spans.
    subst (λ x. IfOk c.value_measure.result (IsOf (value_extremes x)))
    (c.tables_give_values.ensures c.args.table.now c.requires.filled c.requires.sound
    (option_map (λ t. t.now) c.args.name) (value_of c.args.value.now) fs) (c.value_measure.ensures fs spans)
