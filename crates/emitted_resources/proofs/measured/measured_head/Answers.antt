use Rattle.std.proofs.Common.{refl, subst}
use Rattle.bicep_declared.specs.View.{body_tree}
use Rattle.emitted_values.specs.Files.{frames_around}
use Rattle.emitted_sizes.specs.Extent.{IsOf as IsExtent}
use Rattle.emitted_values.specs.EmittedTrees.{count_of}
use Rattle.measured_trees.specs.Extremes.{joined}
use Rattle.measured_trees.specs.Measures.{IsOf}
use Rattle.emitted_values.specs.Seen.{whole_in}
use Rattle.emitted_values.proofs.FilledLemmas.{items_given}
use Rattle.emitted_resources.specs.Heads.{whole_name, whole_condition, loop_count}
use Rattle.emitted_resources.specs.Limits.{expression_extremes, count_extremes}
use Rattle.emitted_resources.proofs.HeadLemmas.{name_placed, condition_placed}
use Rattle.emitted_resources.proofs.measured.measured_head.Goals as goal

pub returns : goal.returns
returns c =
    let s = c.args.table.now in
    let n = c.args.number in
    let l = (body_tree c.args.body.now).each in
    let e = whole_in s in
    let fs = frames_around e n l in
    let filled = c.requires in
    let a = expression_extremes (whole_name e n l) in
    let b = expression_extremes (whole_condition e n l) in
    let name = c.of_expression-name.ensures (whole_name e n l)
    (subst (λ t. IsExtent t c.full_name_extent.result) (name_placed s filled n l fs refl)
    (c.full_name_extent.ensures fs c.span_around-span.ensures)) in
    let held = c.of_expression-condition.ensures (whole_condition e n l)
    (subst (λ t. IsExtent t c.condition_extent.result) (condition_placed s filled n l fs refl)
    (c.condition_extent.ensures fs c.span_around-span.ensures)) in
    let runs = subst (λ x. IsOf (count_extremes l (count_of x)) c.measured_count-count.result)
    (items_given s filled n) c.measured_count-count.ensures in
    c.with-2.ensures.both (joined a b) (count_extremes l (loop_count e n)) (c.with.ensures.both a b name held) runs
