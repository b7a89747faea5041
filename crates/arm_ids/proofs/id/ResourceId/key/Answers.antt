use Rattle.arm_ids.proofs.KeyLemmas.{key_made}
use Rattle.arm_ids.proofs.id.ResourceId.key.Goals as goal

pub invariant_of-result : goal.invariant_of-result
invariant_of-result c =
    key_made c.args.self.now c.in_ok-folded.field-0 c.in_ok-id.id c.in_ok-folded.ensures c.requires c.in_ok-id.ensures
