use Rattle.arm_ids.proofs.ScopeLemmas.{in_subscription, in_group, in_resource}
use Rattle.arm_ids.proofs.scope.Scope.begins.Goals as goal

pub returns-in-Subscription : goal.returns-in-Subscription
returns-in-Subscription c =
    in_subscription c.same_name.result c.args.self.now c.in-Subscription.subscription
    c.parts-parts.result.now c.args.key.now c.in-Subscription.is c.parts-parts.ensures.parts
    c.parts-parts.ensures.is_key c.same_name.ensures

pub returns-in-Group : goal.returns-in-Group
returns-in-Group c =
    in_group c.same_group.result c.args.self.now c.in-Group.subscription c.in-Group.group c.parts-parts.result.now
    c.args.key.now c.in-Group.is c.parts-parts.ensures.parts c.parts-parts.ensures.is_key c.same_group.ensures

pub returns-in-Resource : goal.returns-in-Resource
returns-in-Resource c =
    in_resource c.begins.result c.args.self.now c.in-Resource.resource c.parts.result.now c.parts-parts.result.now
    c.args.key.now c.in-Resource.is c.parts.ensures.parts c.parts-parts.ensures.parts c.parts.ensures.is_key
    c.parts-parts.ensures.is_key c.begins.ensures
