use Rattle.bicep_symbol_types.proofs.SettleLemmas.{are_settled, are_only}
use Rattle.bicep_symbol_types.proofs.laws.types_are_settled.Goals as goal

pub returns-clause-settled : goal.returns-clause-settled
returns-clause-settled c = are_settled

pub returns-clause-only : goal.returns-clause-only
returns-clause-only c = are_only
