use Rattle.std.proofs.Common.{arith}
use Rattle.measured_holes.specs.Growth.{item_depth, index_depth, under}
use Rattle.measured_holes.proofs.HoleLemmas.{least_size, item_size, index_size, least_nesting, flat_item, flat_index}
use Rattle.measured_holes.proofs.HoleLemmas.{item_found, index_found}
use Rattle.measured_holes.proofs.probes.holed.Goals as goal

pub returns : goal.returns
returns c = λ t p.
    let length = least_size t c.args.probed.least.length p.least.0 in
    let flat = least_nesting t c.args.probed.least.depth (omega arith) p.least.1 in
    record {
      length = length;
      items = item_size t c.args.probed.least.length c.args.probed.wide_item.length c.saturating_sub.result length
          p.wide_item.0 c.saturating_sub.ensures;
      indices = index_size t c.args.probed.least.length c.args.probed.wide_index.length c.saturating_sub-2.result length
          p.wide_index.0 c.saturating_sub-2.ensures;
      depth = flat;
      item_depth = c.hole_depth.ensures (item_depth t) (under (index_depth t) 0)
          (flat_index t c.args.probed.least.depth flat) (flat_item t c.args.probed.least.depth flat)
          (item_found t c.args.probed.least.depth c.args.probed.deep_item.depth (omega arith) flat p.deep_item.1);
      index_depth = c.hole_depth-2.ensures (index_depth t) (under (item_depth t) 0)
          (flat_item t c.args.probed.least.depth flat) (flat_index t c.args.probed.least.depth flat)
          (index_found t c.args.probed.least.depth c.args.probed.deep_index.depth (omega arith) flat p.deep_index.1);
    }
