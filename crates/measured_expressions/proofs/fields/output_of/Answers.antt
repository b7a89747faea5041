use Rattle.std.proofs.Common.{length, ap, sym, subst, ◌∙◌}
use Rattle.bicep_resolved.specs.Target.{number_of}
use Rattle.bicep_emission.specs.Emitted.{output_of}
use Rattle.emitted_sizes.specs.Extent.{IsOf}
use Rattle.measured_expressions.proofs.fields.output_of.Goals as goal

pub returns-in-Some : goal.returns-in-Some
returns-in-Some g c = λ fs h.
    let s = g.K.Sizes.sight c.args.around.now in
    let name = s.scope.name (number_of c.args.target) fs in
    subst (λ o. IsOf (output_of o name) c.module_output.result) c.in-Some.ensures
    (c.module_output.ensures name c.in-Some.output.now
    (sym (c.characters.ensures ∙ ap length c.as_str.ensures.characters))
    (subst (λ n. IsOf (s.scope.name n fs) c.name-name.result) c.number.ensures (c.name-name.ensures fs h)))
