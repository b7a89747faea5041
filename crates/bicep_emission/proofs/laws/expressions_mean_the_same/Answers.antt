use Rattle.bicep_emission.proofs.ExpressionLemmas.{law}
use Rattle.bicep_emission.proofs.laws.expressions_mean_the_same.Goals as goal

pub returns : goal.returns
returns c = λ x here loops p ans sc a st e fs gs m h. law x here loops p ans sc a st e fs gs m h
