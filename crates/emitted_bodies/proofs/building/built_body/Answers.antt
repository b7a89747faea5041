use Rattle.std.proofs.Common.{map}
use Rattle.bicep_resolved.specs.View.{property_of, properties}
use Rattle.emitted_expressions.specs.Sight.{frames_of}
use Rattle.tree_building.proofs.WithinLemmas.{parts_nest}
use Rattle.emitted_bodies.specs.Bodies.{body_members}
use Rattle.emitted_bodies.proofs.building.built_body.Goals as goal

pub fields_of-requires : goal.fields_of-requires
fields_of-requires g c =
    parts_nest
    (body_members (g.K.Texts.sight c.args.texts.now) (properties (map property_of c.args.fields.now))
    (frames_of c.args.turns.now)) c.all_fields-parts.result c.all_fields-parts.ensures c.requires.nests

pub returns : goal.returns
returns g c =
    c.fields_of.ensures
    (body_members (g.K.Texts.sight c.args.texts.now) (properties (map property_of c.args.fields.now))
    (frames_of c.args.turns.now)) c.all_fields-parts.ensures
