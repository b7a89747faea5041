use Rattle.std.proofs.Common.{◌≤◌, ap, map, ◌∙◌, sym, subst}
use Rattle.bicep_resolved.specs.View.{property_of, properties}
use Rattle.bicep_declared.specs.View.{body_tree}
use Rattle.emitted_expressions.specs.Sight.{frames_of}
use Rattle.emitted_values.specs.Built.{AreFields}
use Rattle.emitted_values.specs.Depth.{members_depth}
use Rattle.emitted_values.specs.Each.{MembersAreSmall}
use Rattle.emitted_resources.specs.Limits.{members_at}
use Rattle.emitted_resources.proofs.HeadLemmas.{members_placed}
use Rattle.emitted_resources.proofs.resources.fields.Goals as goal

pub members-built-requires-clause-within : goal.members-built-requires-clause-within
members-built-requires-clause-within c =
    let b = body_tree c.args.body.now in
    subst MembersAreSmall
    (sym (members_placed c.args.table.now c.requires.filled c.args.number b c.requires.sound
    (properties (map property_of c.as_slice.result.now)) (frames_of c.as_slice-in-Ok.result.now)
    (ap (λ ps. properties (map property_of ps)) c.as_slice.ensures.value)
    (ap frames_of c.as_slice-in-Ok.ensures.value ∙ c.in-Ok.ensures))) c.requires.fits.small

pub members-built-requires-clause-nests : goal.members-built-requires-clause-nests
members-built-requires-clause-nests c =
    let b = body_tree c.args.body.now in
    subst (λ ms. members_depth ms ≤ 119)
    (sym (members_placed c.args.table.now c.requires.filled c.args.number b c.requires.sound
    (properties (map property_of c.as_slice.result.now)) (frames_of c.as_slice-in-Ok.result.now)
    (ap (λ ps. properties (map property_of ps)) c.as_slice.ensures.value)
    (ap frames_of c.as_slice-in-Ok.ensures.value ∙ c.in-Ok.ensures))) c.requires.fits.nests

pub returns-in-Ok : goal.returns-in-Ok
returns-in-Ok c =
    let s = c.args.table.now in
    let b = body_tree c.args.body.now in
    subst (AreFields (members_at s c.args.number b)) (sym c.letting_go.ensures)
    (subst (λ ms. AreFields ms c.members-built.result)
    (members_placed s c.requires.filled c.args.number b c.requires.sound
    (properties (map property_of c.as_slice.result.now)) (frames_of c.as_slice-in-Ok.result.now)
    (ap (λ ps. properties (map property_of ps)) c.as_slice.ensures.value)
    (ap frames_of c.as_slice-in-Ok.ensures.value ∙ c.in-Ok.ensures)) c.members-built.ensures)
