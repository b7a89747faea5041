use Rattle.emitted_values.proofs.laws.values_are_small.Goals as goal

pub returns : goal.returns
returns c = λ v h. (((c.values_within_the_limits.ensures v).0 h.within).1, h.nests)
