use Rattle.std.proofs.Common.{codes, map, refl}
use Rattle.arm_expr.specs.Tree.{text, trees, more}
use Rattle.emission_laws.specs.Holes.{fill}
use Rattle.kept_parts.proofs.ids.id_extent.Goals as goal

pub returns : goal.returns
returns c = λ k ts f h i s.
    c.call.ensures (codes "resourceId") (more (text k) (trees (map (fill f) ts))) refl
    (c.parts_extent.ensures k ts f h i s)
