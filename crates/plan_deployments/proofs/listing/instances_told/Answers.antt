use Rattle.std.proofs.Common.{◌-◌, ◌≤◌, sym, ap, subst, ◌∙◌, arith}
use Rattle.arm_value.specs.Json.{items_nesting}
use Rattle.arm_value.specs.View.{json}
use Rattle.deploy_cells.specs.Cells.{step}
use Rattle.deploy_cells.specs.Listing.{one_named, instances_named}
use Rattle.plan_table.specs.Found.{scope_at}
use Rattle.plan_sight.specs.Ready.{told_in}
use Rattle.plan_names.proofs.GatherLemmas.{copy_of}
use Rattle.plan_deployments.proofs.ItemLemmas.{items_after, items_begin, items_more, items_stop, items_end, item_nests}
use Rattle.plan_deployments.proofs.ItemLemmas.{one_more_nests}
use Rattle.plan_deployments.proofs.listing.instances_told.Goals as goal

pub loop-copy-init : goal.loop-copy-init
loop-copy-init c =
    let t = c.args.table.now in
    let p = (scope_at t c.args.frame).position in (
      ap (λ js. items_after js (told_in t (instances_named p c.args.number 0 (c.args.count - 0)))) c.new-items.ensures
          ∙ items_begin t p c.args.number c.args.count,
      subst (λ js. items_nesting js ≤ 1) (sym c.new-items.ensures) (omega arith),
    )

pub item_told-requires-clause-copy : goal.item_told-requires-clause-copy
item_told-requires-clause-copy c =
    copy_of c.args.table.now c.args.frame c.args.number c.args.count c.loop-copy.copy c.requires.count
    c.loop-copy-test.true

pub push-requires : goal.push-requires
push-requires c =
    let t = c.args.table.now in
    let one = item_nests t c.in-Ok.item
    (told_in t (one_named (scope_at t c.args.frame).position (step c.args.number c.loop-copy.copy))) c.in-Ok.ensures in
    omega (arith, one)

pub returns-in-Err-clause-told : goal.returns-in-Err-clause-told
returns-in-Err-clause-told c =
    let t = c.args.table.now in
    items_stop t (scope_at t c.args.frame).position c.args.number c.loop-copy.items c.loop-copy.copy c.args.count
    c.in-Err.lack _ c.loop-copy-test.true c.in-Err.ensures c.loop-copy.invariant.0

pub loop-copy-preserved : goal.loop-copy-preserved
loop-copy-preserved c =
    let t = c.args.table.now in
    let p = (scope_at t c.args.frame).position in
    let one = item_nests t c.in-Ok.item (told_in t (one_named p (step c.args.number c.loop-copy.copy))) c.in-Ok.ensures
    in (
      items_more t p c.args.number c.loop-copy.items _ c.loop-copy.copy c.args.count c.in-Ok.item _
          c.loop-copy-test.true
          c.in-Ok.ensures c.in_ok-push-in-Ok.ensures c.loop-copy.invariant.0,
      one_more_nests c.loop-copy.items _ (json c.in-Ok.item) 1 c.loop-copy.invariant.1 (omega (arith, one))
          c.in_ok-push-in-Ok.ensures,
    )

pub returns-clause-told : goal.returns-clause-told
returns-clause-told c =
    let t = c.args.table.now in
    items_end t (scope_at t c.args.frame).position c.args.number c.loop-copy.items c.loop-copy.copy c.args.count _
    c.loop-copy-test.false c.loop-copy.invariant.0

pub returns-clause-nests : goal.returns-clause-nests
returns-clause-nests c = c.loop-copy.invariant.1
