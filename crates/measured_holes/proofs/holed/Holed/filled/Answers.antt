use Rattle.std.proofs.Common.{max, ap, ◌∙◌, arith}
use Rattle.measured_holes.proofs.HoleLemmas.{length_filled, depth_filled}
use Rattle.measured_holes.proofs.holed.Holed.filled.Goals as goal

pub returns : goal.returns
returns c = λ t f g s. (
  length_filled t f c.args.self.length c.args.self.items c.args.self.indices c.args.span.item.length
      c.args.span.index.length c.grown-with_items.result c.grown-length.result g.length g.items g.indices s.0.0 s.1.0
      c.grown-with_items.ensures c.grown-length.ensures,
  depth_filled t f c.args.self.depth c.args.span.item.depth c.args.span.index.depth c.deeper-deepest.result
      c.deeper-depth.result c.args.self.item_depth c.args.self.index_depth (omega arith) g.depth g.item_depth
      g.index_depth s.0.1 s.1.1 (c.deeper-deepest.ensures ∙ ap (max c.args.self.depth) c.below.ensures)
      (c.deeper-depth.ensures ∙ ap (max c.deeper-deepest.result) c.below-2.ensures),
)
