use Rattle.std.proofs.Common.{◌≡◌, ◌+◌, ◌*◌, ◌++◌, drop, map, length}
use Rattle.std.specs.Prelude.{option_map}
use Rattle.template_tree.specs.Tree.{trees, trees_depth, tree_depth}
use Rattle.template_tree.specs.View.{resource_tree}
use Rattle.plan_filling.specs.Resources.{listed_trees}
use Rattle.plan_table.specs.Listed.{above_of, listed_of}
use Rattle.plan_table.proofs.listed.+listing.Given as goal

abbrev pub decreases-list_tree : goal.decreases-list_tree
decreases-list_tree l = 2 * tree_depth (resource_tree l.resource.now) + 1

abbrev pub decreases-list_trees : goal.decreases-list_trees
decreases-list_trees l = 2 * trees_depth (trees l.resources.now) + 2

abbrev pub invariant-list_trees-loop-resource : goal.invariant-list_trees-loop-resource
invariant-list_trees-loop-resource l =
    map listed_of l.listed.items ++ listed_trees (option_map above_of l.above) (length l.listed.items)
    (trees (map resource_tree (drop l.resource-index l.resource-items)))
    ≡ map listed_of l.initial.listed.items ++ listed_trees (option_map above_of l.above)
    (length l.initial.listed.items) (trees (map resource_tree l.resource-items))
