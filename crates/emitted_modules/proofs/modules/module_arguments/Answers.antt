use Rattle.std.proofs.Common.{ap, map, sym, subst, ◌∙◌}
use Rattle.std.specs.Prelude.{IfOk}
use Rattle.bicep_declared.specs.View.{body_tree}
use Rattle.bicep_resolved.specs.View.{property_of, properties}
use Rattle.emitted_expressions.specs.Sight.{frames_of}
use Rattle.emitted_resources.specs.Files.{frames_around}
use Rattle.emitted_resources.specs.Filled.{emission_sight}
use Rattle.emitted_resources.specs.Seen.{whole_in}
use Rattle.emitted_modules.specs.Arguments.{arguments_in, ArgumentsFit, AreArguments}
use Rattle.emitted_modules.proofs.modules.module_arguments.Goals as goal

pub arguments-requires-clause-fits : goal.arguments-requires-clause-fits
arguments-requires-clause-fits c =
    let s = c.args.table.now in
    let w = emission_sight s in
    let b = body_tree c.args.body.now in
    let ps = properties (map property_of c.arguments_of-members.result.now) in
    subst (λ fs. ArgumentsFit w fs ps) (sym (ap frames_of c.as_slice-in-Ok.ensures.value ∙ c.in-Ok.ensures))
    (subst (ArgumentsFit w (frames_around (whole_in s) c.args.number b.each))
    (sym (c.arguments_of-members.ensures
    ∙ ap (λ ps. arguments_in (properties (map property_of ps))) c.as_slice.ensures.value)) c.requires.fits)

pub returns-in-Ok : goal.returns-in-Ok
returns-in-Ok c =
    let s = c.args.table.now in
    let w = emission_sight s in
    let b = body_tree c.args.body.now in
    let fs = frames_around (whole_in s) c.args.number b.each in
    subst (λ r. IfOk r (AreArguments w fs (arguments_in b.fields))) (sym c.letting_go.ensures)
    (subst (λ ps. IfOk c.arguments.result (AreArguments w fs ps))
    (c.arguments_of-members.ensures
    ∙ ap (λ ps. arguments_in (properties (map property_of ps))) c.as_slice.ensures.value)
    (subst
    (λ fs. IfOk c.arguments.result
    (AreArguments w fs (properties (map property_of c.arguments_of-members.result.now))))
    (ap frames_of c.as_slice-in-Ok.ensures.value ∙ c.in-Ok.ensures) c.arguments.ensures))
