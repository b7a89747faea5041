use Rattle.std.proofs.Common.{◌≤◌, List, sym, ap, subst, arith}
use Rattle.arm_value.specs.Json.{Json, array, object, row, pairs, nesting}
use Rattle.template_parts.specs.declared.mode.Form.TheVariants.{One}
use Rattle.template_tree.specs.Tree.{trees, body_depth}
use Rattle.template_tree.specs.View.{header_of, resource_tree, body_tree, template_tree}
use Rattle.template_tree.specs.declared.resource.Body.{Body}
use Rattle.template_written.specs.Keeps.{BodyKept}
use Rattle.template_written.specs.Parts.{declaration_slots}
use Rattle.template_written.specs.Slots.{SlotsNest}
use Rattle.template_written.specs.Written.{written, written_each, written_resource, written_body, name_or_none}
use Rattle.template_written.specs.Written.{BodyNests}
use Rattle.template_writer.proofs.ListLemmas.{part_all, part_last}
use Rattle.template_writer.proofs.NestLemmas.{named_tree, resource_nests}
use Rattle.template_writer.proofs.TreeLemmas.{tree_each, tree_named, tree_order, as_array, as_object, header_with}
use Rattle.template_writer.proofs.TreeLemmas.{each_at, named_at, resource_kept, depth_below, named_order, each_all}
use Rattle.template_writer.proofs.TreeLemmas.{named_all, children_nest, body_nests, template_nests, argument_order}
use Rattle.template_writer.proofs.TreeLemmas.{weaker}
use Rattle.template_writer.proofs.template.+write.Goals as goal

pub write_body-write_tree-requires : goal.write_body-write_tree-requires
write_body-write_tree-requires t c =
    let k = subst (λ (b : Body). BodyKept (body_tree b)) c.in-Deployment.is c.requires.keeps in
    let n = subst (λ (b : Body). BodyNests (body_tree b)) c.in-Deployment.is c.requires.nests in
    let d = c.in-Deployment.deployment in
    let e = ap (λ (b : Body). body_depth (body_tree b)) c.in-Deployment.is in (
      omega (arith, e, c.decreases),
      (k.1.3, template_nests d.scope d.parameters (written (template_tree d.template)) n),
    )

pub write_body-write_properties-requires-clause-order : goal.write_body-write_properties-requires-clause-order
write_body-write_properties-requires-clause-order t c =
    let k = subst (λ (b : Body). BodyKept (body_tree b)) c.in-Deployment.is c.requires.keeps in
    argument_order c.in-Deployment.deployment.parameters k.1.1

pub write_by_symbol-write_resource-requires : goal.write_by_symbol-write_resource-requires
write_by_symbol-write_resource-requires t c =
    let rs = c.as_slice-resource-items.result.now in
    let e = c.as_slice-resource-items.ensures in
    let h = depth_below rs c.args.resources.now c.loop-resource.resource-index c.resource-item.result e
    c.loop-resource-test.true c.resource-item.is in
    let d = named_at rs c.args.resources.now c.loop-resource.resource-index c.resource-item.result e c.requires.nests
    c.loop-resource-test.true c.resource-item.is in (
      omega (arith, h, c.decreases),
      (
        resource_kept rs c.args.resources.now c.loop-resource.resource-index c.resource-item.result e c.requires.keeps
            c.loop-resource-test.true c.resource-item.is,
        weaker _ d,
      ),
    )

pub write_by_symbol-with_named-requires-clause-nests : goal.write_by_symbol-with_named-requires-clause-nests
write_by_symbol-with_named-requires-clause-nests t c =
    let d = named_at c.as_slice-resource-items.result.now c.args.resources.now c.loop-resource.resource-index
    c.resource-item.result c.as_slice-resource-items.ensures c.requires.nests c.loop-resource-test.true
    c.resource-item.is in
    subst (λ (j : Json). nesting j ≤ 119) (sym c.in-Ok.ensures) d

pub write_by_symbol-with_named-requires-clause-last : goal.write_by_symbol-with_named-requires-clause-last
write_by_symbol-with_named-requires-clause-last t c =
    part_last named_tree c.loop-resource.members c.as_slice-resource-items.result.now c.loop-resource.resource-index
    c.resource-item.result _
    (named_order c.as_slice-resource-items.result.now c.args.resources.now c.as_slice-resource-items.ensures
    c.requires.order) c.loop-resource.invariant c.loop-resource-test.true c.resource-item.is
    (λ x. (name_or_none c.resource-item.result.declaration.symbol, c.in-Ok.ensures x))

pub write_by_symbol-returns : goal.write_by_symbol-returns
write_by_symbol-returns t c =
    named_all c.as_slice-resource-items.result.now c.args.resources.now c.loop-resource.members
    c.as_slice-resource-items.ensures
    (part_all named_tree c.loop-resource.members c.as_slice-resource-items.result.now c.loop-resource.resource-index
    c.loop-resource.invariant c.loop-resource-test.false)

pub write_each-write_resource-requires : goal.write_each-write_resource-requires
write_each-write_resource-requires t c =
    let rs = c.as_slice-resource-items.result.now in
    let e = c.as_slice-resource-items.ensures in
    let h = depth_below rs c.args.resources.now c.loop-resource.resource-index c.resource-item.result e
    c.loop-resource-test.true c.resource-item.is in
    let d = each_at rs c.args.resources.now c.loop-resource.resource-index c.resource-item.result e c.requires.nests
    c.loop-resource-test.true c.resource-item.is in (
      omega (arith, h, c.decreases),
      (
        resource_kept rs c.args.resources.now c.loop-resource.resource-index c.resource-item.result e c.requires.keeps
            c.loop-resource-test.true c.resource-item.is,
        weaker _ d,
      ),
    )

pub write_each-with_item-requires : goal.write_each-with_item-requires
write_each-with_item-requires t c =
    let d = each_at c.as_slice-resource-items.result.now c.args.resources.now c.loop-resource.resource-index
    c.resource-item.result c.as_slice-resource-items.ensures c.requires.nests c.loop-resource-test.true
    c.resource-item.is in
    subst (λ (j : Json). nesting j ≤ 119) (sym c.in-Ok.ensures) d

pub write_each-returns : goal.write_each-returns
write_each-returns t c =
    each_all c.as_slice-resource-items.result.now c.args.resources.now c.loop-resource.items
    c.as_slice-resource-items.ensures
    (part_all (λ r. written_resource (resource_tree r)) c.loop-resource.items c.as_slice-resource-items.result.now
    c.loop-resource.resource-index c.loop-resource.invariant c.loop-resource-test.false)

pub write_resource-write_each-requires : goal.write_resource-write_each-requires
write_resource-write_each-requires t c =
    let r = c.args.resource.now in (
      omega (arith, c.decreases),
      (
        (One, c.requires.keeps.1.3),
        children_nest r.declaration (written_each (trees r.resources)) (written_body (body_tree r.body))
            c.requires.nests,
      ),
    )

pub write_resource-write_body-requires : goal.write_resource-write_body-requires
write_resource-write_body-requires t c =
    let r = c.args.resource.now in (
      omega (arith, c.decreases),
      (
        (r.declaration, c.requires.keeps.1.2),
        body_nests r.declaration (written_each (trees r.resources)) (body_tree r.body) c.requires.nests,
      ),
    )

pub write_resource-joined-requires : goal.write_resource-joined-requires
write_resource-joined-requires t c =
    let r = c.args.resource.now in
    subst (λ (js : List Json). SlotsNest 119 (declaration_slots r.declaration js)) (sym c.in_ok-children.ensures)
    (resource_nests r.declaration (written_each (trees r.resources)) (written_body (body_tree r.body))
    c.requires.nests)

pub write_tree-write_each-requires : goal.write_tree-write_each-requires
write_tree-write_each-requires t c = (
  omega (arith, c.decreases),
  (
    (c.args.template.now.form, c.requires.keeps.2),
    tree_each (header_of c.args.template.now) (trees c.args.template.now.resources) c.in-One.is c.requires.nests,
  ),
)

pub write_tree-write_header-requires-clause-nests : goal.write_tree-write_header-requires-clause-nests
write_tree-write_header-requires-clause-nests t c =
    let h = header_of c.args.template.now in
    let rs = trees c.args.template.now.resources in
    header_with h rs (array (row c.in_ok-items-in-One.items))
    (as_array h rs c.in_ok-items-in-One.items c.in-One.is c.in_ok-items-in-One.ensures) c.requires.nests

pub write_tree-write_by_symbol-requires : goal.write_tree-write_by_symbol-requires
write_tree-write_by_symbol-requires t c = (
  omega (arith, c.decreases),
  (
    (c.args.template.now.form, c.requires.keeps.2),
    (
      tree_order (header_of c.args.template.now) (trees c.args.template.now.resources) c.in-Two.is c.requires.keeps.1,
      tree_named (header_of c.args.template.now) (trees c.args.template.now.resources) c.in-Two.is c.requires.nests,
    ),
  ),
)

pub write_tree-write_header-requires-in-Two-clause-nests : goal.write_tree-write_header-requires-in-Two-clause-nests
write_tree-write_header-requires-in-Two-clause-nests t c =
    let h = header_of c.args.template.now in
    let rs = trees c.args.template.now.resources in
    header_with h rs (object (pairs c.in_ok-members-in-Two.members))
    (as_object h rs c.in_ok-members-in-Two.members c.in-Two.is c.in_ok-members-in-Two.ensures) c.requires.nests
