use Rattle.std.proofs.Common.{ap, map, subst, ◌∙◌}
use Rattle.std.specs.Prelude.{IfOk, option_to_list}
use Rattle.bicep_declared.specs.View.{body_tree}
use Rattle.bicep_resolved.specs.View.{property_of, properties}
use Rattle.emitted_resources.specs.Files.{frames_around}
use Rattle.emitted_resources.specs.Filled.{emission_sight}
use Rattle.emitted_resources.specs.Measures.{IsOf}
use Rattle.emitted_resources.specs.Seen.{whole_in}
use Rattle.emitted_resources.specs.Spans.{AreSpans}
use Rattle.emitted_modules.specs.Arguments.{arguments_in, arguments_extremes}
use Rattle.emitted_modules.proofs.measured.measured_arguments.Goals as goal

pub returns-in-Some : goal.returns-in-Some
returns-in-Some c =
    let s = c.args.table.now in
    let fs = frames_around (whole_in s) c.args.number (body_tree c.args.body.now).each in
    subst (λ ps. IfOk c.all_arguments.result (IsOf (arguments_extremes (emission_sight s) fs ps)))
    (c.arguments_of-members.ensures
    ∙ ap (λ ps. arguments_in (properties (map property_of ps))) c.as_slice.ensures.value)
    (c.all_arguments.ensures fs (subst (λ o. AreSpans fs (option_to_list o)) c.in-Some.is c.span_around.ensures))

pub returns-in-None : goal.returns-in-None
returns-in-None c =
    let s = c.args.table.now in
    let fs = frames_around (whole_in s) c.args.number (body_tree c.args.body.now).each in
    subst (λ ps. IfOk c.all_arguments-in-None.result (IsOf (arguments_extremes (emission_sight s) fs ps)))
    (c.arguments_of-members.ensures
    ∙ ap (λ ps. arguments_in (properties (map property_of ps))) c.as_slice.ensures.value)
    (c.all_arguments-in-None.ensures fs
    (subst (λ o. AreSpans fs (option_to_list o)) c.in-None.is c.span_around.ensures))
