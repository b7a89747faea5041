use Rattle.arm_ids.proofs.ScopeLemmas.{subscription_covers_group, group_covers_group, key_covers_no_group}
use Rattle.arm_ids.proofs.scope.Scope.covers_group.Goals as goal

pub returns-in-Subscription : goal.returns-in-Subscription
returns-in-Subscription c =
    subscription_covers_group c.same_name.result c.args.self.now c.in-Subscription.own c.args.subscription.now
    c.args.group.now c.in-Subscription.is c.same_name.ensures

pub returns-in-Group : goal.returns-in-Group
returns-in-Group c =
    group_covers_group c.same_group.result c.args.self.now c.in-Group.own c.in-Group.own_group
    c.args.subscription.now c.args.group.now c.in-Group.is c.same_group.ensures

pub returns-in-Resource : goal.returns-in-Resource
returns-in-Resource c =
    key_covers_no_group c.is_a_group.result c.args.self.now c.in-Resource.key c.args.subscription.now
    c.args.group.now c.in-Resource.is c.is_a_group.ensures.is_key c.is_a_group.ensures.none
