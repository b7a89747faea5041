use Rattle.bicep_names.proofs.UnknownLemmas.{tells, tells_value}
use Rattle.bicep_names.proofs.laws.unknown_names.Goals as goal

pub returns : goal.returns
returns c = record {
  expressions = λ sc e ls. tells sc e ls;
  values = λ sc v ls. tells_value sc v ls;
}
