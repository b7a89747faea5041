use Rattle.std.proofs.Common.{◌≡◌, ◌+◌, ◌*◌, take, map}
use Rattle.template_tree.specs.Tree.{trees, trees_depth, tree_depth, body_depth, template_depth}
use Rattle.template_tree.specs.View.{template_tree, resource_tree, body_tree}
use Rattle.template_written.specs.Written.{written_resource}
use Rattle.template_writer.proofs.NestLemmas.{named_tree}
use Rattle.template_writer.proofs.template.+write.Given as goal

abbrev pub decreases-write_tree : goal.decreases-write_tree
decreases-write_tree l = 5 * template_depth (template_tree l.template.now) + 3

abbrev pub decreases-write_each : goal.decreases-write_each
decreases-write_each l = 5 * trees_depth (trees l.resources.now) + 2

abbrev pub decreases-write_by_symbol : goal.decreases-write_by_symbol
decreases-write_by_symbol l = 5 * trees_depth (trees l.resources.now) + 2

abbrev pub decreases-write_resource : goal.decreases-write_resource
decreases-write_resource l = 5 * tree_depth (resource_tree l.resource.now) + 1

abbrev pub decreases-write_body : goal.decreases-write_body
decreases-write_body l = 5 * body_depth (body_tree l.body.now) + 4

abbrev pub invariant-write_each-loop-resource : goal.invariant-write_each-loop-resource
invariant-write_each-loop-resource l =
    l.items ≡ map (λ r. written_resource (resource_tree r)) (take l.resource-index l.resource-items)

abbrev pub invariant-write_by_symbol-loop-resource : goal.invariant-write_by_symbol-loop-resource
invariant-write_by_symbol-loop-resource l =
    l.members ≡ map named_tree (take l.resource-index l.resource-items)
