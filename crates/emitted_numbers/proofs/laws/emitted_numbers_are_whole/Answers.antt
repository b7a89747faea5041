use Rattle.emitted_numbers.proofs.IntLemmas.{all_levels, whole_expression}
use Rattle.emitted_numbers.proofs.laws.emitted_numbers_are_whole.Goals as goal

pub returns-clause-expressions : goal.returns-clause-expressions
returns-clause-expressions c = whole_expression

pub returns-clause-items : goal.returns-clause-items
returns-clause-items c = λ file files wholes parts k n. (all_levels file files wholes parts k).scope.items n

pub returns-clause-names : goal.returns-clause-names
returns-clause-names c = λ file files wholes parts k n fs h. (all_levels file files wholes parts k).full_name n fs h

pub returns-clause-conditions : goal.returns-clause-conditions
returns-clause-conditions c = λ file files wholes parts k n fs h.
    (all_levels file files wholes parts k).condition n fs h
