use Rattle.arm_value.proofs.TextLemmas.{is_folded}
use Rattle.bicep_signatures.proofs.table.is_named.Goals as goal

pub returns : goal.returns
returns c = is_folded _ _ _ c.folded_eq.ensures.0 c.folded_eq.ensures.1
