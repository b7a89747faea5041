use Rattle.arm_expr.specs.Tree.{nesting}
use Rattle.measured_trees.specs.Extremes.{tree_extremes, text_length}
use Rattle.measured_trees.proofs.NumberLemmas.{greater_of, two_deeper}
use Rattle.measured_trees.proofs.measure.Measure.looped.Goals as goal

pub returns : goal.returns
returns c = λ e t h k.
    let i = c.of_expression-times.ensures e h in
    let m = c.of_expression-times.result in
    let x = tree_extremes t in
    record {
      longest =
          greater_of m.longest c.args.self.longest (text_length e) x.longest c.greater-longest.result i.longest
          k.longest c.greater-longest.ensures;
      deepest =
          greater_of m.deepest c.args.self.deepest (nesting e) x.deepest c.greater-deepest.result i.deepest k.deepest
          c.greater-deepest.ensures;
      depth =
          two_deeper c.args.self.depth x.depth c.saturating_add-depth.result k.depth c.saturating_add-depth.ensures;
    }
