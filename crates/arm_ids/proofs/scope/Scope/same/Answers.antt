use Rattle.std.proofs.Common.{subst, sym, IsTrue, ◌↔◌}
use Rattle.arm_ids.specs.Scope.{IsSame}
use Rattle.arm_ids.specs.declared.scope.Scope.{Scope}
use Rattle.arm_ids.proofs.scope.Scope.same.Goals as goal

pub returns-in-Subscription : goal.returns-in-Subscription
returns-in-Subscription c =
    let P : Scope → Type 0 = λ x. IsTrue c.is_subscription.result ↔ IsSame x c.args.other.now in
    subst P (sym c.in-Subscription.is) c.is_subscription.ensures

pub returns-in-Group : goal.returns-in-Group
returns-in-Group c =
    let P : Scope → Type 0 = λ x. IsTrue c.is_group.result ↔ IsSame x c.args.other.now in
    subst P (sym c.in-Group.is) c.is_group.ensures

pub returns-in-Resource : goal.returns-in-Resource
returns-in-Resource c =
    let P : Scope → Type 0 = λ x. IsTrue c.is_resource.result ↔ IsSame x c.args.other.now in
    subst P (sym c.in-Resource.is) c.is_resource.ensures
