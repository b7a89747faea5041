use Rattle.bicep_meaning_laws.proofs.SettledLemmas.{settled}
use Rattle.bicep_meaning_laws.proofs.laws.declarations_settle.Goals as goal

pub returns : goal.returns
returns c = λ here rank k ranked below. settled here rank ranked k below
