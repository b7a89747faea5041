use Rattle.std.proofs.Common.{chars}
use Rattle.arm_ids.proofs.ScopeIdLemmas.{only_resource, no_scope_fault}
use Rattle.arm_ids.proofs.scope.resource.Goals as goal

pub returns-in-Ok-clause-only : goal.returns-in-Ok-clause-only
returns-in-Ok-clause-only c =
    only_resource (chars c.args.id.now) c.in-Ok.key c.requires c.in-Ok.ensures.only

pub returns-in-Err-clause-fault : goal.returns-in-Err-clause-fault
returns-in-Err-clause-fault c =
    no_scope_fault (chars c.args.id.now) c.in-Err.fault c.requires c.in-Err.ensures.fault
