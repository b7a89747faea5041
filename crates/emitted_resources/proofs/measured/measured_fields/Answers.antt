use Rattle.std.proofs.Common.{ap, map, refl, subst}
use Rattle.std.specs.Prelude.{IfOk, option_to_list}
use Rattle.bicep_declared.specs.View.{body_tree}
use Rattle.bicep_resolved.specs.View.{property_of, properties}
use Rattle.emitted_values.specs.Files.{frames_around}
use Rattle.emitted_values.specs.Templates as t
use Rattle.emitted_values.specs.Seen.{whole_in}
use Rattle.measured_expressions.specs.Spans.{AreSpans}
use Rattle.measured_trees.specs.Extremes.{tree_extremes}
use Rattle.measured_trees.specs.Measures.{IsOf}
use Rattle.emitted_resources.proofs.HeadLemmas.{members_placed}
use Rattle.emitted_resources.proofs.measured.measured_fields.Goals as goal

pub returns-in-Some : goal.returns-in-Some
returns-in-Some c =
    let s = c.args.table.now in
    let b = body_tree c.args.body.now in
    let fs = frames_around (whole_in s) c.args.number b.each in
    let ps = c.as_slice-fields.result.now in
    subst (λ ms. IfOk c.measured_members.result (IsOf (tree_extremes (t.object ms))))
    (members_placed s c.requires.filled c.args.number b c.requires.sound (properties (map property_of ps)) fs
    (ap (λ ps. properties (map property_of ps)) c.as_slice-fields.ensures.value) refl)
    (c.measured_members.ensures fs (subst (λ o. AreSpans fs (option_to_list o)) c.in-Some.is c.span_around.ensures))

pub returns-in-None : goal.returns-in-None
returns-in-None c =
    let s = c.args.table.now in
    let b = body_tree c.args.body.now in
    let fs = frames_around (whole_in s) c.args.number b.each in
    let ps = c.as_slice-fields.result.now in
    subst (λ ms. IfOk c.measured_members-in-None.result (IsOf (tree_extremes (t.object ms))))
    (members_placed s c.requires.filled c.args.number b c.requires.sound (properties (map property_of ps)) fs
    (ap (λ ps. properties (map property_of ps)) c.as_slice-fields.ensures.value) refl)
    (c.measured_members-in-None.ensures fs
    (subst (λ o. AreSpans fs (option_to_list o)) c.in-None.is c.span_around.ensures))
