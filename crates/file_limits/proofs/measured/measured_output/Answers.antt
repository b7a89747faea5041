use Rattle.std.proofs.Common.{[], None, subst}
use Rattle.bicep_resolved.specs.View.{value_of}
use Rattle.emitted_templates.specs.Filled.{emission_sight}
use Rattle.measured_trees.specs.Extremes.{value_extremes}
use Rattle.measured_trees.specs.Measures.{IsOf}
use Rattle.tree_building.specs.Sight.{value}
use Rattle.file_limits.specs.Extremes.{output_object}
use Rattle.file_limits.proofs.measured.measured_output.Goals as goal

pub returns : goal.returns
returns c =
    let x = value_extremes (value (emission_sight c.args.table.now) None (value_of c.args.declared.now.value) []) in
    subst (λ b. IsOf (output_object b x) c.output_object.result) c.is_loop.ensures
    (c.output_object.ensures x (c.in_ok-value.ensures [] tt))
