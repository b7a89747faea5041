use Rattle.emitted_sizes.specs.Extent.{bounded}
use Rattle.measured_trees.proofs.NumberLemmas.{greater_of, with_one}
use Rattle.measured_trees.proofs.measure.Measure.with.Goals as goal

pub returns-clause-both : goal.returns-clause-both
returns-clause-both c = λ x y h k. record {
  longest =
      greater_of c.args.self.longest c.args.others.longest x.longest y.longest c.greater-longest.result h.longest
      k.longest c.greater-longest.ensures;
  deepest =
      greater_of c.args.self.deepest c.args.others.deepest x.deepest y.deepest c.greater-deepest.result h.deepest
      k.deepest c.greater-deepest.ensures;
  depth =
      greater_of c.args.self.depth c.args.others.depth x.depth y.depth c.greater-depth.result h.depth k.depth
      c.greater-depth.ensures;
}

pub returns-clause-begins : goal.returns-clause-begins
returns-clause-begins c = λ x rest all h b. (
  with_one c.args.self.longest c.args.others.longest x.longest rest.longest (bounded all.longest)
      c.greater-longest.result h.longest c.greater-longest.ensures b.0,
  (
    with_one c.args.self.deepest c.args.others.deepest x.deepest rest.deepest (bounded all.deepest)
        c.greater-deepest.result h.deepest c.greater-deepest.ensures b.1.0,
    with_one c.args.self.depth c.args.others.depth x.depth rest.depth (bounded all.depth) c.greater-depth.result
        h.depth c.greater-depth.ensures b.1.1,
  ),
)
