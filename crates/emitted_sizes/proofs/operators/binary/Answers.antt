use Rattle.emitted_parts.specs.Words.{compared}
use Rattle.emitted_parts.proofs.WordLemmas.{negated_is, plain_is}
use Rattle.emitted_sizes.proofs.SizeLemmas.{also}
use Rattle.emitted_sizes.proofs.operators.binary.Goals as goal

pub returns-then-negates : goal.returns-then-negates
returns-then-negates c = λ a b i j.
    also _ _ c.negated.result (negated_is c.args.operator c.if-negates.ensures a b)
    (c.negated.ensures (compared c.args.operator a b) (c.applied_to_operands-compared.ensures a b i j))

pub returns-else-negates : goal.returns-else-negates
returns-else-negates c = λ a b i j.
    also _ _ c.applied_to_operands-compared.result (plain_is c.args.operator c.if-negates.ensures a b)
    (c.applied_to_operands-compared.ensures a b i j)
