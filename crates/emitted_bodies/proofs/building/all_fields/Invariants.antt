use Rattle.std.proofs.Common.{◌≡◌, ◌≤◌, [], map, drop}
use Rattle.bicep_resolved.specs.View.{property_of, properties}
use Rattle.emitted_expressions.specs.Sight.{frames_of}
use Rattle.tree_building.specs.Built.{members_of, all_grown}
use Rattle.tree_building.specs.Depth.{members_depth}
use Rattle.tree_building.specs.Each.{MembersAreSmall}
use Rattle.emitted_bodies.specs.Bodies.{body_members}
use Rattle.emitted_bodies.proofs.building.all_fields.Given as goal

-- what is built and what is left are the whole, and what is left is within the limits
abbrev pub invariant-loop-field : goal.invariant-loop-field
invariant-loop-field g l =
    let w = g.K.Texts.sight l.texts in
    let left = body_members w (properties (map property_of (drop l.field-index l.fields))) (frames_of l.turns) in
    (all_grown left (members_of l.parts)
    ≡ all_grown (body_members w (properties (map property_of l.fields)) (frames_of l.turns)) ([], []))
    × (MembersAreSmall left × (members_depth left ≤ 119))
