use Rattle.std.proofs.Common.{codes, refl}
use Rattle.arm_expr.specs.Tree.{text, call}
use Rattle.emitted_parts.specs.Emitted.{two}
use Rattle.emitted_sizes.proofs.states.deployment.Goals as goal
use Rattle.arm_ids.specs.Members.{deployment_type}

pub returns : goal.returns
returns c =
    λ a i. c.call_one.ensures (codes "reference")
    (call (codes "resourceId") (two (text deployment_type) a)) refl
    (c.call_two.ensures (codes "resourceId") (text deployment_type) a refl (c.word.ensures refl) i)
