use Rattle.measured_trees.proofs.NumberLemmas.{one_deeper}
use Rattle.measured_trees.proofs.measure.Measure.enclosed.Goals as goal

pub returns : goal.returns
returns c = λ x h. record {
  longest = h.longest;
  deepest = h.deepest;
  depth = one_deeper c.args.self.depth x.depth c.saturating_add-depth.result h.depth c.saturating_add-depth.ensures;
}
