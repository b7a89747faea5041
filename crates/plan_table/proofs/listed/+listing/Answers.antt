use Rattle.std.proofs.Common.{ap, arith, map}
use Rattle.std.specs.Prelude.{option_map}
use Rattle.template_tree.specs.Tree.{trees, trees_depth}
use Rattle.template_tree.proofs.TreeLemmas.{resource_within}
use Rattle.std.proofs.Common.{length}
use Rattle.plan_table.specs.Listed.{above_of, listed_of}
use Rattle.plan_table.proofs.ListingLemmas.{trees_start, trees_more, trees_all}
use Rattle.plan_table.proofs.listed.+listing.Goals as goal

pub list_trees-list_tree-requires : goal.list_trees-list_tree-requires
list_trees-list_tree-requires t c =
    let h = resource_within c.as_slice-resource-items.result.now c.loop-resource.resource-index c.resource-item.result
    c.loop-resource-test.true c.resource-item.is in
    let same = ap (λ rs. trees_depth (trees rs)) c.as_slice-resource-items.ensures in
    (omega (arith, h, same, c.decreases), tt)

pub list_trees-loop-resource-preserved : goal.list_trees-loop-resource-preserved
list_trees-loop-resource-preserved t c =
    trees_more (option_map above_of c.args.above.now)
    (trees_start (option_map above_of c.args.above.now) c.args.listed.now.items c.as_slice-resource-items.result.now)
    c.as_slice-resource-items.result.now c.loop-resource.resource-index c.resource-item.result
    c.loop-resource.listed.items c.list_tree.new.listed.items c.loop-resource-test.true c.resource-item.is
    c.in_ok-list_tree.ensures c.loop-resource.invariant

pub list_trees-returns : goal.list_trees-returns
list_trees-returns t c =
    trees_all (option_map above_of c.args.above.now) (map listed_of c.args.listed.now.items)
    (length c.args.listed.now.items) c.loop-resource.resource-index c.as_slice-resource-items.result.now
    c.args.resources.now c.loop-resource.listed.items c.loop-resource-test.false c.as_slice-resource-items.ensures
    c.loop-resource.invariant
