use Rattle.emitted_values.proofs.laws.trees_are_small.Goals as goal

pub returns : goal.returns
returns c = λ e h. (((c.trees_within_the_limits.ensures e).0 h.within).1, h.nests)
