use Rattle.std.proofs.Common.{ap, arith}
use Rattle.template_tree.specs.Tree.{trees, trees_depth}
use Rattle.template_tree.proofs.TreeLemmas.{resource_within}
use Rattle.template_tree.proofs.+copy.Goals as goal

pub resource::Resources::copy-copy_resource-requires : goal.resource::Resources::copy-copy_resource-requires
resource::Resources::copy-copy_resource-requires t c =
    let h = resource_within c.as_slice-resource-items.result.now c.loop-resource.resource-index c.resource-item.result
    c.loop-resource-test.true c.resource-item.is in
    let same = ap (λ rs. trees_depth (trees rs)) c.as_slice-resource-items.ensures in
    (omega (arith, h, same, c.decreases), tt)
