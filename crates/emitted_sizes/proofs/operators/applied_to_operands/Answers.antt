use Rattle.emitted_parts.specs.Emitted.{small}
use Rattle.emitted_sizes.proofs.SizeLemmas.{also, lowered_there}
use Rattle.emitted_sizes.proofs.operators.applied_to_operands.Goals as goal

pub returns-then-lowers : goal.returns-then-lowers
returns-then-lowers c = λ a b i j.
    also _ _ c.applied.result (lowered_there c.args.operator c.if-lowers.ensures a b)
    (c.applied.ensures (small a) (small b) (c.lowered.ensures a i) (c.lowered-then-lowers.ensures b j))
