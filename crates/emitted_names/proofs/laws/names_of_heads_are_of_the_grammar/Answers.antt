use Rattle.emitted_names.proofs.NameLemmas.{all_levels}
use Rattle.emitted_names.proofs.laws.names_of_heads_are_of_the_grammar.Goals as goal

pub returns-clause-items : goal.returns-clause-items
returns-clause-items c = λ file files words outputs k n. (all_levels file files words outputs k).scope.items n

pub returns-clause-names : goal.returns-clause-names
returns-clause-names c = λ file files words outputs k n fs h.
    (all_levels file files words outputs k).full_name n fs h

pub returns-clause-conditions : goal.returns-clause-conditions
returns-clause-conditions c = λ file files words outputs k n fs h.
    (all_levels file files words outputs k).condition n fs h
