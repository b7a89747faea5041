use Rattle.std.proofs.Common.{ap, arith}
use Rattle.template_tree.specs.Tree.{trees, trees_depth}
use Rattle.template_tree.proofs.TreeLemmas.{resource_within}
use Rattle.plan_paths.proofs.resources.+paths.Goals as goal

pub push_resources-push_resource-requires : goal.push_resources-push_resource-requires
push_resources-push_resource-requires t c =
    let h = resource_within c.as_slice-resource-items.result.now c.loop-number.number c.resource-item.result
    c.loop-number-test.true c.resource-item.is in
    let same = ap (λ rs. trees_depth (trees rs)) c.as_slice-resource-items.ensures in
    (omega (arith, h, same, c.decreases), tt)
