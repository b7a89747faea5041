use Rattle.std.proofs.Common.{ap, length}
use Rattle.plan_sight.specs.Sites.{all_spelled}
use Rattle.plan_table.specs.Found.{scope_at}
use Rattle.plan_sight.specs.Ready.{told_in}
use Rattle.plan_names.specs.Named.{gathered}
use Rattle.plan_names.proofs.GatherLemmas.{all_more_at, all_stop_at, all_end, fewer_listed, no_more_listed}
use Rattle.plan_names.proofs.gather.gather_all.Goals as goal

pub loop-number-init : goal.loop-number-init
loop-number-init c =
    ap (λ ks. gathered c.args.text.now ks (told_in c.args.table.now (all_spelled c.args.place.now
    (scope_at c.args.table.now c.args.frame).position 0 (scope_at c.args.table.now c.args.frame).resources)))
    c.new-keys.ensures.items

pub gather_resource-requires-clause-resource : goal.gather_resource-requires-clause-resource
gather_resource-requires-clause-resource c =
    fewer_listed c.args.table.now c.args.frame c.index.result.now c.requires.there c.index.ensures
    c.loop-number.number _ (ap length c.as_slice-resources.ensures.value) c.loop-number-test.true

pub returns-in-Err : goal.returns-in-Err
returns-in-Err c =
    all_stop_at c.args.table.now c.args.text.now c.args.place.now (scope_at c.args.table.now c.args.frame).position
    c.loop-number.keys.items c.loop-number.keys.items (scope_at c.args.table.now c.args.frame).resources
    c.loop-number.number c.in-Err.lack _
    (fewer_listed c.args.table.now c.args.frame c.index.result.now c.requires.there c.index.ensures
    c.loop-number.number _ (ap length c.as_slice-resources.ensures.value) c.loop-number-test.true) c.in-Err.ensures
    c.loop-number.invariant

pub loop-number-preserved : goal.loop-number-preserved
loop-number-preserved c =
    all_more_at c.args.table.now c.args.text.now c.args.place.now (scope_at c.args.table.now c.args.frame).position
    c.loop-number.keys.items _ (scope_at c.args.table.now c.args.frame).resources c.loop-number.number _
    (fewer_listed c.args.table.now c.args.frame c.index.result.now c.requires.there c.index.ensures
    c.loop-number.number _ (ap length c.as_slice-resources.ensures.value) c.loop-number-test.true) c.in-Ok.ensures
    c.loop-number.invariant

pub returns : goal.returns
returns c =
    all_end c.args.table.now c.args.text.now c.args.place.now (scope_at c.args.table.now c.args.frame).position
    c.loop-number.keys.items (scope_at c.args.table.now c.args.frame).resources c.loop-number.number _
    (no_more_listed c.args.table.now c.args.frame c.index.result.now c.requires.there c.index.ensures
    c.loop-number.number _ (ap length c.as_slice-resources.ensures.value) c.loop-number-test.false)
    c.loop-number.invariant
