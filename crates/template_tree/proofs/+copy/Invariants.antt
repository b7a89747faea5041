use Rattle.std.proofs.Common.{◌≡◌, ◌+◌, ◌*◌, take, map}
use Rattle.template_tree.specs.Tree.{trees, trees_depth, tree_depth, body_depth}
use Rattle.template_tree.specs.View.{body_tree, resource_tree}
use Rattle.template_tree.proofs.+copy.Given as goal

abbrev pub decreases-resource::Resources::copy : goal.decreases-resource::Resources::copy
decreases-resource::Resources::copy l = 3 * trees_depth (trees l.self.now) + 2

abbrev pub decreases-copy::copy_resource : goal.decreases-copy::copy_resource
decreases-copy::copy_resource l = 3 * tree_depth (resource_tree l.resource.now) + 1

abbrev pub decreases-copy::copy_body : goal.decreases-copy::copy_body
decreases-copy::copy_body l = 3 * body_depth (body_tree l.body.now) + 3

abbrev pub invariant-resource::Resources::copy-loop-resource : goal.invariant-resource::Resources::copy-loop-resource
invariant-resource::Resources::copy-loop-resource l =
    l.copies ≡ map resource_tree (take l.resource-index l.resource-items)
