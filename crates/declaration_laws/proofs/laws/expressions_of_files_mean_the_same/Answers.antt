use Rattle.declaration_laws.proofs.DeclarationLemmas.{file_law}
use Rattle.declaration_laws.proofs.laws.expressions_of_files_mean_the_same.Goals as goal

pub returns : goal.returns
returns c = λ x here loops p ans vars sound e fs gs m h. file_law x here loops p ans vars sound e fs gs m h
