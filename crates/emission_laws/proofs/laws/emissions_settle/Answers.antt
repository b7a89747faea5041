use Rattle.emission_laws.proofs.SettledLemmas.{settled}
use Rattle.emission_laws.proofs.laws.emissions_settle.Goals as goal

pub returns : goal.returns
returns c = λ file files rank k ranked below. settled file files rank ranked k below
