use Rattle.std.proofs.Common.{arith}
use Rattle.measured_trees.proofs.NumberLemmas.{ends}
use Rattle.measured_trees.proofs.measure.Measure.ended.Goals as goal

pub returns : goal.returns
returns c = λ all b. record {
  longest = ends c.args.self.longest all.longest (omega arith) b.0;
  deepest = ends c.args.self.deepest all.deepest (omega arith) b.1.0;
  depth = ends c.args.self.depth all.depth (omega arith) b.1.1;
}
