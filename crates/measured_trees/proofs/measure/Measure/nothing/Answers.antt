use Rattle.std.proofs.Common.{refl}
use Rattle.measured_trees.proofs.NumberLemmas.{begins}
use Rattle.measured_trees.proofs.measure.Measure.nothing.Goals as goal

pub returns-clause-nothing : goal.returns-clause-nothing
returns-clause-nothing c = record { longest = refl; deepest = refl; depth = refl }

pub returns-clause-begins : goal.returns-clause-begins
returns-clause-begins c = λ all. (begins all.longest, (begins all.deepest, begins all.depth))
