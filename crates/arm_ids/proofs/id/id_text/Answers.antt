use Rattle.arm_ids.proofs.KeyLemmas.{id_text_names}
use Rattle.arm_ids.proofs.id.id_text.Goals as goal

pub returns-clause-reads_back : goal.returns-clause-reads_back
returns-clause-reads_back c =
    id_text_names c.in_ok-id.id _ _ c.in_ok-id.ensures.ok c.in_ok-id.ensures.is_id c.in_ok-text.ensures.text
