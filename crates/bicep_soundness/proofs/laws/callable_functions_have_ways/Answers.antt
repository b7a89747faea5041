use Rattle.bicep_soundness.proofs.CallableLemmas.{callable}
use Rattle.bicep_soundness.proofs.laws.callable_functions_have_ways.Goals as goal

pub returns : goal.returns
returns c = callable
