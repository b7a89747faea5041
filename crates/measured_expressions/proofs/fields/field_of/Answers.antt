use Rattle.std.proofs.Common.{length, ap, sym, ◌∙◌}
use Rattle.bicep_emission.specs.Files.{type_of}
use Rattle.measured_expressions.proofs.fields.field_of.Goals as goal

pub returns-in-Properties : goal.returns-in-Properties
returns-in-Properties g c =
    let s = g.K.Sizes.sight c.args.around.now in
    rw c.in-Properties.is
    (λ fs h. c.properties.ensures (s.scope.id c.args.number fs) (type_of s.file c.args.number).version
    (c.id-in-Properties.ensures fs h) c.version-in-Properties.ensures)

pub returns-in-Other : goal.returns-in-Other
returns-in-Other g c =
    let s = g.K.Sizes.sight c.args.around.now in
    rw c.in-Other.is
    (λ fs h. c.state_member.ensures (s.scope.id c.args.number fs) (type_of s.file c.args.number).version
    c.in-Other.name (sym (c.characters.ensures ∙ ap length c.as_str.ensures.characters)) (c.id-id.ensures fs h)
    c.version-in-Other.ensures)
