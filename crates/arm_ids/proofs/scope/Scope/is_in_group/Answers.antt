use Rattle.arm_ids.proofs.ScopeLemmas.{subscription_in_no_group, group_in_group, key_in_group}
use Rattle.arm_ids.proofs.scope.Scope.is_in_group.Goals as goal

pub returns-in-Subscription : goal.returns-in-Subscription
returns-in-Subscription c =
    subscription_in_no_group c.args.self.now _ c.args.subscription.now c.args.group.now c.in-Subscription.is

pub returns-in-Group : goal.returns-in-Group
returns-in-Group c =
    group_in_group c.same_group.result c.args.self.now c.in-Group.own c.in-Group.own_group
    c.args.subscription.now c.args.group.now c.in-Group.is c.same_group.ensures

pub returns-in-Resource : goal.returns-in-Resource
returns-in-Resource c =
    key_in_group c.same_group-in-Resource.result c.args.self.now c.in-Resource.key c.parts-parts.result.now
    c.args.subscription.now c.args.group.now c.in-Resource.is c.parts-parts.ensures.parts
    c.parts-parts.ensures.is_key c.same_group-in-Resource.ensures
