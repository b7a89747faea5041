use Rattle.std.proofs.Common.{chars, ap}
use Rattle.arm_ids.specs.declared.id.ResourceId.{ResourceId}
use Rattle.arm_ids.proofs.IdLemmas.{made}
use Rattle.arm_ids.proofs.id.ResourceId.of.Goals as goal

pub returns-in-None-clause-is_id : goal.returns-in-None-clause-is_id
returns-in-None-clause-is_id c =
    made _ (chars c.args.kind.now) (chars c.args.name.now)
    (ap (λ (i : ResourceId). i.types) c.in_ok-id.ensures) (ap (λ (i : ResourceId). i.names) c.in_ok-id.ensures)
    c.in-None.ensures.none.0 c.in-None.ensures.none.1
