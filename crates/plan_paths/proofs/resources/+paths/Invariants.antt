use Rattle.std.proofs.Common.{◌+◌, ◌*◌}
use Rattle.template_tree.specs.Tree.{trees, trees_depth, tree_depth}
use Rattle.template_tree.specs.View.{resource_tree}
use Rattle.plan_paths.proofs.TreeLemmas.{PathsLeft}
use Rattle.plan_paths.proofs.resources.+paths.Given as goal

abbrev pub decreases-push_resource : goal.decreases-push_resource
decreases-push_resource l = 2 * tree_depth (resource_tree l.resource.now) + 1

abbrev pub decreases-push_resources : goal.decreases-push_resources
decreases-push_resources l = 2 * trees_depth (trees l.resources.now) + 2

abbrev pub invariant-push_resources-loop-number : goal.invariant-push_resources-loop-number
invariant-push_resources-loop-number l =
    PathsLeft l.initial.paths.items l.paths.items l.list l.resource-items l.number
