use Rattle.std.proofs.Common.{◌+◌, ◌*◌, suc, take, map, Some, None, option_map}
use Rattle.arm_value.specs.Json.{nesting}
use Rattle.arm_value.specs.View.{json}
use Rattle.template_meaning.specs.Describes.{DescribesResources}
use Rattle.template_tree.specs.Tree.{trees}
use Rattle.template_build.proofs.BuildLemmas.{depth}
use Rattle.template_build.proofs.tree.+build.Given as goal

abbrev pub decreases-build_template : goal.decreases-build_template
decreases-build_template l = 5 * depth (option_map (λ v. json v.now) l.value) + 1

abbrev pub decreases-build_unnamed : goal.decreases-build_unnamed
decreases-build_unnamed l = 5 * depth (option_map (λ v. json v.now) l.value)

abbrev pub decreases-build_symbolic : goal.decreases-build_symbolic
decreases-build_symbolic l = 5 * depth (option_map (λ v. json v.now) l.value)

abbrev pub decreases-build_named : goal.decreases-build_named
decreases-build_named l = 5 * suc (nesting (json l.value.now)) + 4

abbrev pub decreases-build_resource : goal.decreases-build_resource
decreases-build_resource l = 5 * suc (nesting (json l.value.now)) + 3

abbrev pub decreases-build_body : goal.decreases-build_body
decreases-build_body l = 5 * suc (nesting (json l.value.now)) + 2

abbrev pub invariant-build_unnamed-loop-item : goal.invariant-build_unnamed-loop-item
invariant-build_unnamed-loop-item l =
    DescribesResources (map (λ v. (None, json v)) (take l.item-index l.item-items)) (trees l.resources)

abbrev pub invariant-build_symbolic-loop-field : goal.invariant-build_symbolic-loop-field
invariant-build_symbolic-loop-field l =
    DescribesResources (map (λ f. (Some f.name, json f.value)) (take l.field-index l.field-items)) (trees l.resources)
