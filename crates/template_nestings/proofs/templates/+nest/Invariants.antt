use Rattle.std.proofs.Common.{◌≡◌, ◌+◌, ◌*◌, max, map, drop}
use Rattle.template_tree.specs.Tree.{trees, trees_depth, tree_depth, body_depth, template_depth}
use Rattle.template_tree.specs.View.{template_tree, resource_tree, body_tree}
use Rattle.template_nestings.specs.Nestings.{trees_nesting}
use Rattle.template_nestings.proofs.templates.+nest.Given as goal

abbrev pub decreases-of_template : goal.decreases-of_template
decreases-of_template l = 5 * template_depth (template_tree l.template.now) + 3

abbrev pub decreases-deepest : goal.decreases-deepest
decreases-deepest l = 5 * trees_depth (trees l.resources.now) + 2

abbrev pub decreases-of_resource : goal.decreases-of_resource
decreases-of_resource l = 5 * tree_depth (resource_tree l.resource.now) + 1

abbrev pub decreases-of_body : goal.decreases-of_body
decreases-of_body l = 5 * body_depth (body_tree l.body.now) + 4

-- the deepest of the resources before, and of those that are left
abbrev pub invariant-deepest-loop-resource : goal.invariant-deepest-loop-resource
invariant-deepest-loop-resource l =
    max l.most (trees_nesting (trees (map resource_tree (drop l.resource-index l.resource-items))))
    ≡ trees_nesting (trees (map resource_tree l.resource-items))
