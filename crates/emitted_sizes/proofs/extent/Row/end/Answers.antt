use Rattle.arm_expr.specs.Tree.{deepest}
use Rattle.emitted_sizes.specs.Extent.{bounded}
use Rattle.std.proofs.Common.{◌∙◌, arith}
use Rattle.emitted_sizes.proofs.SizeLemmas.{end_depth}
use Rattle.emitted_sizes.proofs.extent.Row.end.Goals as goal

pub returns : goal.returns
returns c = λ all b. (
  c.saturating_add-length.ensures ∙ b.0,
  end_depth c.args.self.depth (bounded (deepest all)) (omega arith) b.1,
)
