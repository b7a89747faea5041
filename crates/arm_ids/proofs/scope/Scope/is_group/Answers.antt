use Rattle.arm_ids.proofs.ScopeLemmas.{same_groups, group_or_subscription, group_or_key}
use Rattle.arm_ids.proofs.scope.Scope.is_group.Goals as goal

pub returns-in-Subscription : goal.returns-in-Subscription
returns-in-Subscription c =
    group_or_subscription c.args.self.now c.args.subscription.now c.args.group.now _ c.in-Subscription.is

pub returns-in-Group : goal.returns-in-Group
returns-in-Group c =
    same_groups c.same_group.result c.args.self.now c.args.subscription.now c.args.group.now c.in-Group.own
    c.in-Group.own_group c.in-Group.is c.same_group.ensures

pub returns-in-Resource : goal.returns-in-Resource
returns-in-Resource c =
    group_or_key c.is_a_group.result c.args.self.now c.args.subscription.now c.args.group.now c.in-Resource.key
    c.in-Resource.is c.is_a_group.ensures.is_key c.is_a_group.ensures.none
