use Rattle.arm_ids.proofs.ScopeIdLemmas.{subscription_text, group_text, key_text}
use Rattle.arm_ids.proofs.scope.Scope.to_id.Goals as goal

pub returns-in-Subscription-clause-reads_back : goal.returns-in-Subscription-clause-reads_back
returns-in-Subscription-clause-reads_back c =
    subscription_text c.subscription_id.result c.args.self.now c.in-Subscription.subscription c.in-Subscription.is
    c.subscription_id.ensures

pub returns-in-Group-clause-reads_back : goal.returns-in-Group-clause-reads_back
returns-in-Group-clause-reads_back c =
    group_text c.group_id.result c.args.self.now c.in-Group.subscription c.in-Group.group c.in-Group.is
    c.group_id.ensures

pub returns-in-Resource-clause-reads_back : goal.returns-in-Resource-clause-reads_back
returns-in-Resource-clause-reads_back c =
    key_text c.to_id.result c.args.self.now c.in-Resource.key c.in-Resource.is c.to_id.ensures.reads_back
