use Rattle.std.proofs.Common.{codes, refl, subst}
use Rattle.arm_expr.specs.Tree.{text, call}
use Rattle.bicep_emission.specs.Emitted.{three}
use Rattle.emitted_sizes.specs.Extent.{IsOf}
use Rattle.kept_heads.proofs.JointLemmas.{slash_text}
use Rattle.kept_heads.proofs.joints.joint_extent.Goals as goal

pub returns-in-Slash : goal.returns-in-Slash
returns-in-Slash c = λ a b h k.
    rw c.in-Slash.is
    (subst (λ t. IsOf (call (codes "format") (three (text t) a b)) c.call_three.result) slash_text
    (c.call_three.ensures (codes "format") (text (codes "{0}/{1}")) a b refl (c.word.ensures refl) h k))

pub returns-in-And : goal.returns-in-And
returns-in-And c = λ a b h k. rw c.in-And.is (c.call_two.ensures (codes "and") a b refl h k)
