use Rattle.std.proofs.Common.{map}
use Rattle.bicep_resolved.specs.View.{property_of, properties}
use Rattle.measured_trees.specs.Extremes.{members_extremes}
use Rattle.emitted_bodies.specs.Bodies.{body_members}
use Rattle.emitted_bodies.proofs.measured.measured_body.Goals as goal

pub returns : goal.returns
returns g c = λ fs h.
    c.enclosed.ensures
    (members_extremes
    (body_members (g.K.Extents.sight c.args.around.now) (properties (map property_of c.args.fields.now)) fs))
    (c.in_ok-measured_fields.ensures fs h)
