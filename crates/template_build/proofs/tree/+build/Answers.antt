use Rattle.std.proofs.Common.{codes, Some, None, option_map, ap, ◌∙◌, arith}
use Rattle.arm_value.specs.Json.{Json, Member}
use Rattle.arm_value.specs.View.{json, member}
use Rattle.arm_value.specs.declared.value.Field.{Field}
use Rattle.arm_value.specs.declared.value.Value.{Value}
use Rattle.template_meaning.specs.Values.{inside, items_in, members_in}
use Rattle.template_tree.specs.View.{resource_tree}
use Rattle.template_build.proofs.BuildLemmas.{depth, inside_within, inside_below, inside_twice, item_below}
use Rattle.template_build.proofs.BuildLemmas.{member_below}
use Rattle.template_build.proofs.BuildLemmas.{described_more, described_all}
use Rattle.template_build.proofs.tree.+build.Goals as goal

pub build_body-build_template-requires : goal.build_body-build_template-requires
build_body-build_template-requires t c =
    let e = ap depth (c.inside.ensures ∙ ap (inside (codes "template")) c.inside-properties.ensures) in
    let h = inside_twice (codes "template") (codes "properties") (json c.args.value.now) in
    (omega (arith, e, h, c.decreases), tt)

pub build_resource-build_unnamed-requires : goal.build_resource-build_unnamed-requires
build_resource-build_unnamed-requires t c =
    let e = ap depth c.inside.ensures in
    let h = inside_below (codes "resources") (json c.args.value.now) in
    (omega (arith, e, h, c.decreases), tt)

pub build_symbolic-build_named-requires : goal.build_symbolic-build_named-requires
build_symbolic-build_named-requires t c =
    let h = member_below (option_map (λ v. json v.now) c.args.value) c.members_in-field-items.result.now
    c.loop-field.field-index c.field-item.result c.members_in-field-items.ensures c.loop-field-test.true
    c.field-item.is in
    (omega (arith, h, c.decreases), tt)

pub build_symbolic-loop-field-preserved : goal.build_symbolic-loop-field-preserved
build_symbolic-loop-field-preserved t c =
    described_more (λ (f : Field). (Some f.name, json f.value)) c.members_in-field-items.result.now
    c.loop-field.field-index c.field-item.result c.loop-field.resources c.in_ok-resources-in-Ok.resources
    (resource_tree c.in-Ok.resource) c.loop-field.invariant c.loop-field-test.true c.field-item.is
    c.in-Ok.ensures c.in_ok-resources-in-Ok.ensures

pub build_symbolic-returns : goal.build_symbolic-returns
build_symbolic-returns t c =
    described_all member (λ (m : Member). (Some m.0, m.1)) c.members_in-field-items.result.now
    (members_in (option_map (λ v. json v.now) c.args.value)) c.loop-field.field-index c.loop-field.resources
    c.members_in-field-items.ensures c.loop-field-test.false c.loop-field.invariant

pub build_template-build_unnamed-requires : goal.build_template-build_unnamed-requires
build_template-build_unnamed-requires t c =
    let e = ap depth c.inside-listed.ensures in
    let h = inside_within (codes "resources") (option_map (λ v. json v.now) c.args.value) in
    (omega (arith, e, h, c.decreases), tt)

pub build_template-build_symbolic-requires : goal.build_template-build_symbolic-requires
build_template-build_symbolic-requires t c =
    let e = ap depth c.inside-listed.ensures in
    let h = inside_within (codes "resources") (option_map (λ v. json v.now) c.args.value) in
    (omega (arith, e, h, c.decreases), tt)

pub build_unnamed-build_resource-requires : goal.build_unnamed-build_resource-requires
build_unnamed-build_resource-requires t c =
    let h = item_below (option_map (λ v. json v.now) c.args.value) c.items_in-item-items.result.now
    c.loop-item.item-index c.item-item.result c.items_in-item-items.ensures c.loop-item-test.true c.item-item.is in
    (omega (arith, h, c.decreases), tt)

pub build_unnamed-loop-item-preserved : goal.build_unnamed-loop-item-preserved
build_unnamed-loop-item-preserved t c =
    described_more (λ (v : Value). (None, json v)) c.items_in-item-items.result.now c.loop-item.item-index
    c.item-item.result c.loop-item.resources c.in_ok-resources-in-Ok.resources (resource_tree c.in-Ok.resource)
    c.loop-item.invariant c.loop-item-test.true c.item-item.is c.in-Ok.ensures c.in_ok-resources-in-Ok.ensures

pub build_unnamed-returns : goal.build_unnamed-returns
build_unnamed-returns t c =
    described_all json (λ (j : Json). (None, j)) c.items_in-item-items.result.now
    (items_in (option_map (λ v. json v.now) c.args.value)) c.loop-item.item-index c.loop-item.resources
    c.items_in-item-items.ensures c.loop-item-test.false c.loop-item.invariant
