use Rattle.std.proofs.Common.{codes, refl}
use Rattle.arm_expr.specs.Tree.{member}
use Rattle.emitted_parts.specs.Built.{deployment_tree}
use Rattle.emitted_sizes.proofs.states.module_output.Goals as goal

pub returns : goal.returns
returns c =
    λ a output n i. c.plain_member-2.ensures
    (member (member (deployment_tree a) (codes "outputs")) output) (codes "value") refl
    (c.plain_member.ensures (member (deployment_tree a) (codes "outputs")) output n
    (c.plain_member-outputs.ensures (deployment_tree a) (codes "outputs") refl (c.deployment.ensures a i)))
