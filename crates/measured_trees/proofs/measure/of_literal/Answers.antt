use Rattle.measured_trees.proofs.measure.of_literal.Goals as goal

pub returns : goal.returns
returns c = λ v. record {
  longest = c.nothing.ensures.nothing.longest;
  deepest = c.nothing.ensures.nothing.deepest;
  depth = c.nothing.ensures.nothing.depth;
}
