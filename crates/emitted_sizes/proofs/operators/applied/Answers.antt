use Rattle.std.proofs.Common.{sym}
use Rattle.emitted_parts.specs.Words.{operator_word}
use Rattle.emitted_sizes.proofs.operators.applied.Goals as goal

pub returns : goal.returns
returns c =
    λ a b i j. c.call_two.ensures (operator_word c.args.operator) a b (sym c.word_length.ensures) i j
