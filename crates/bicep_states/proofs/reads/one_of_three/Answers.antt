use Rattle.std.proofs.Common.{◌||◌}
use Rattle.bicep_states.proofs.reads.one_of_three.Goals as goal

pub returns : goal.returns
returns c = λ a b d x y z. c.either-2.ensures a (b || d) x (c.either.ensures b d y z)
