use Rattle.std.proofs.Common.{option_map, sym, subst}
use Rattle.bicep_resolved.specs.View.{loop_of}
use Rattle.emitted_values.specs.EmittedTrees.{count_of}
use Rattle.measured_trees.specs.Measures.{IsOf}
use Rattle.emitted_values.specs.Seen.{sight}
use Rattle.emitted_resources.specs.Limits.{count_extremes}
use Rattle.emitted_resources.proofs.measured.measured_count.Goals as goal

pub returns-in-Some : goal.returns-in-Some
returns-in-Some c =
    let xs = (sight c.args.table.now).scope.items c.args.number in
    subst (λ o. IsOf (count_extremes (option_map loop_of o) (count_of xs)) c.of_expression.result) (sym c.in-Some.is)
    (c.of_expression.ensures (count_of xs) (c.count_of.ensures xs c.items_extent.ensures))
