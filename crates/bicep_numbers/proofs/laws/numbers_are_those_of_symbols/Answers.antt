use Rattle.bicep_numbers.proofs.FileLemmas.{file_within}
use Rattle.bicep_numbers.proofs.laws.numbers_are_those_of_symbols.Goals as goal

pub returns : goal.returns
returns c = record {
  declarations = λ modules f os t e. (file_within modules f os t e).0;
  outputs = λ modules f os t e. (file_within modules f os t e).1;
}
