use Rattle.std.proofs.Common.{option_map, Some, sym, subst}
use Rattle.std.specs.Prelude.{option_to_list}
use Rattle.bicep_resolved.specs.View.{loop_of}
use Rattle.emitted_values.specs.Files.{frames_around}
use Rattle.emitted_sizes.specs.Extent.{IsOf}
use Rattle.measured_expressions.specs.Spans.{AreSpans}
use Rattle.emitted_values.specs.Seen.{whole_in}
use Rattle.emitted_values.proofs.FilledLemmas.{items_given}
use Rattle.emitted_resources.proofs.turns.span_around.Goals as goal

pub returns-in-Some : goal.returns-in-Some
returns-in-Some c =
    let s = c.args.table.now in
    let n = c.args.number in
    let xs = (whole_in s).scope.items n in
    let over = subst (λ t. IsOf t c.items_extent.result) (items_given s c.requires n) c.items_extent.ensures in
    subst
    (λ o. AreSpans (frames_around (whole_in s) n (option_map loop_of o)) (option_to_list (Some c.run_of.result)))
    (sym c.in-Some.is) (c.run_of.ensures xs over, tt)
