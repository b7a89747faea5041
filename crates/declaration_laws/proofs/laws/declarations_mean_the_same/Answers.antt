use Rattle.declaration_laws.proofs.DeclarationLemmas.{all_stand}
use Rattle.declaration_laws.proofs.laws.declarations_mean_the_same.Goals as goal

pub returns : goal.returns
returns c = λ x here loops p ans vars sound k. all_stand x here loops p ans vars sound k
