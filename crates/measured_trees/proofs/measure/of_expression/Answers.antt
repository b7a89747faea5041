use Rattle.std.proofs.Common.{refl}
use Rattle.arm_expr.specs.Print.{size}
use Rattle.arm_expr.proofs.PrintLemmas.{length-whole}
use Rattle.measured_trees.specs.Extremes.{text_length}
use Rattle.measured_trees.proofs.NumberLemmas.{two_more}
use Rattle.measured_trees.proofs.measure.of_expression.Goals as goal

pub returns : goal.returns
returns c = λ e h. record {
  longest =
      two_more c.args.extent.length (size e) (text_length e) c.saturating_add-longest.result h.0
      c.saturating_add-longest.ensures (length-whole e);
  deepest = h.1;
  depth = refl;
}
