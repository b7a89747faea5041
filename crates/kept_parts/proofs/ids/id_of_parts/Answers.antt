use Rattle.std.proofs.Common.{map, refl}
use Rattle.arm_expr.specs.Tree.{text, trees, more}
use Rattle.emission_laws.specs.Holes.{fill}
use Rattle.kept_parts.proofs.ids.id_of_parts.Goals as goal

pub returns : goal.returns
returns c = λ ts f h p q.
    c.call.ensures refl (more (text c.args.kind.now) (trees (map (fill f) ts))) (c.parts_filled.ensures ts f h p q)
