use Rattle.emitted_names.proofs.NameLemmas.{named}
use Rattle.emitted_names.proofs.laws.names_are_of_the_grammar.Goals as goal

pub returns : goal.returns
returns c = λ file files words outputs k e fs h g. named file files words outputs k e fs h g
