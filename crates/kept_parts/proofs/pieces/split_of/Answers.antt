use Rattle.std.proofs.Common.{refl}
use Rattle.kept_parts.proofs.pieces.split_of.Goals as goal

pub returns : goal.returns
returns c = λ a i. c.call_two.ensures refl a _ i (c.word.ensures refl)
