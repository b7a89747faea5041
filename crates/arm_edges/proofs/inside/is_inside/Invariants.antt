use Rattle.std.proofs.Common.{◌≡◌}
use Rattle.std.specs.Path.{path_components, components_remaining}
use Rattle.arm_edges.specs.Inside.{stays_inside}
use Rattle.arm_edges.proofs.inside.is_inside.Given as goal

abbrev pub invariant-loop-part : goal.invariant-loop-part
invariant-loop-part l =
    stays_inside 0 (path_components l.name) ≡ stays_inside l.depth (components_remaining l.part-iterator)
