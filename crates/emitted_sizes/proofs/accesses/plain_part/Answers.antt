use Rattle.arm_expr.specs.Print.{size}
use Rattle.arm_expr.specs.Tree.{nesting}
use Rattle.emitted_sizes.proofs.SizeLemmas.{part_length, part_depth}
use Rattle.emitted_sizes.proofs.accesses.plain_part.Goals as goal

pub returns : goal.returns
returns c = λ a i h k. (
  part_length c.args.value.length c.args.index.length c.saturating_add-bracketed.result (size a) (size i)
      c.saturating_add-length.result h.0 k.0 c.saturating_add-bracketed.ensures c.saturating_add-length.ensures,
  part_depth c.args.value.depth c.args.index.depth c.deeper-deepest.result (nesting a) (nesting i)
      c.saturating_add-depth.result h.1 k.1 c.deeper-deepest.ensures c.saturating_add-depth.ensures,
)
