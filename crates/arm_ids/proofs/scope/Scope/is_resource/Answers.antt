use Rattle.arm_ids.proofs.ScopeLemmas.{same_keys, key_or_subscription, key_or_group}
use Rattle.arm_ids.proofs.scope.Scope.is_resource.Goals as goal

pub returns-in-Subscription : goal.returns-in-Subscription
returns-in-Subscription c = key_or_subscription c.args.self.now c.args.key.now _ c.in-Subscription.is

pub returns-in-Group : goal.returns-in-Group
returns-in-Group c =
    key_or_group c.is_a_group.result c.args.self.now c.args.key.now _ _ c.in-Group.is c.is_a_group.ensures.is_key
    c.is_a_group.ensures.none

pub returns-in-Resource : goal.returns-in-Resource
returns-in-Resource c =
    same_keys c.same_key.result c.args.self.now c.args.key.now c.in-Resource.own c.in-Resource.is
    c.same_key.ensures.is_key c.same_key.ensures.is_other_key c.same_key.ensures.same
