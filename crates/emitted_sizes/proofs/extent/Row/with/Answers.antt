use Rattle.arm_expr.specs.Print.{size, arguments_size}
use Rattle.arm_expr.specs.Tree.{nesting, deepest}
use Rattle.emitted_sizes.specs.Extent.{bounded}
use Rattle.emitted_sizes.proofs.SizeLemmas.{with_length, with_depth}
use Rattle.emitted_sizes.proofs.extent.Row.with.Goals as goal

pub returns : goal.returns
returns c = λ t ts all i b. (
  with_length c.args.self.length c.args.self.before (size t) (arguments_size 2 ts) (bounded (arguments_size 0 all))
      c.saturating_add-before.result c.args.argument.length c.saturating_add-length.result
      c.saturating_add-before.ensures i.0 c.saturating_add-length.ensures b.0,
  with_depth c.args.self.depth (nesting t) (deepest ts) (bounded (deepest all)) c.args.argument.depth
      c.deeper-depth.result i.1 c.deeper-depth.ensures b.1,
)
