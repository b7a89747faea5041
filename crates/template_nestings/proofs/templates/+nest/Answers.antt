use Rattle.std.proofs.Common.{arith}
use Rattle.template_nestings.proofs.TreeLemmas.{depth_below}
use Rattle.template_nestings.proofs.templates.+nest.Goals as goal

pub deepest-of_resource-requires : goal.deepest-of_resource-requires
deepest-of_resource-requires t c =
    let h = depth_below c.as_slice-resource-items.result.now c.args.resources.now c.loop-resource.resource-index
    c.resource-item.result c.as_slice-resource-items.ensures c.loop-resource-test.true c.resource-item.is in
    (omega (arith, h, c.decreases), tt)
