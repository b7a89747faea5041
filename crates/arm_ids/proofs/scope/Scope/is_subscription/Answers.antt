use Rattle.arm_ids.proofs.ScopeLemmas.{same_subscriptions, other_than_subscription, subscription_or_key}
use Rattle.arm_ids.proofs.scope.Scope.is_subscription.Goals as goal

pub returns-in-Subscription : goal.returns-in-Subscription
returns-in-Subscription c =
    same_subscriptions c.same_name.result c.args.self.now c.args.subscription.now c.in-Subscription.own
    c.in-Subscription.is c.same_name.ensures

pub returns-in-Group : goal.returns-in-Group
returns-in-Group c = other_than_subscription c.args.self.now c.args.subscription.now _ _ c.in-Group.is

pub returns-in-Resource : goal.returns-in-Resource
returns-in-Resource c = subscription_or_key c.args.self.now c.args.subscription.now _ c.in-Resource.is
