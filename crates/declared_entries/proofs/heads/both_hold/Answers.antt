use Rattle.std.proofs.Common.{sym, subst}
use Rattle.std.specs.Prelude.{IfOk}
use Rattle.kept_expressions.specs.Kept.{IsKeptHoles}
use Rattle.kept_heads.specs.Joints.{joined}
use Rattle.kept_heads.specs.declared.joints.Joint.TheVariants as joint
use Rattle.declared_entries.proofs.heads.both_hold.Goals as goal

pub returns-in-Ok : goal.returns-in-Ok
returns-in-Ok c = λ a b h k.
    subst (λ x. IfOk x (IsKeptHoles (joined joint.And a b))) (sym c.letting_go.ensures)
    (c.joined.ensures a b (subst (λ x. IfOk x (IsKeptHoles a)) c.in-Ok.is h) k)
