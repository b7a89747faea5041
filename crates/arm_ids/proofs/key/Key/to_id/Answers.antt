use Rattle.std.proofs.Common.{subst, ap, ◌∙◌}
use Rattle.arm_ids.specs.Id.{IsKey, folded_text}
use Rattle.arm_ids.proofs.KeyLemmas.{copy_reads_back}
use Rattle.arm_ids.proofs.key.Key.to_id.Goals as goal

pub returns-clause-reads_back : goal.returns-clause-reads_back
returns-clause-reads_back c =
    copy_reads_back c.copy.result c.args.self.now c.self.inside.id c.copy.ensures (c.self.invariant.1
    ∙ ap folded_text c.self.view_is) (subst IsKey c.self.view_is c.self.invariant.0)
