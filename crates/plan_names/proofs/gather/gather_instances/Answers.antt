use Rattle.plan_table.specs.Found.{scope_at}
use Rattle.plan_names.proofs.GatherLemmas.{instances_begin, instances_more, instances_stop, instances_end, copy_of}
use Rattle.plan_names.proofs.gather.gather_instances.Goals as goal

pub loop-copy-init : goal.loop-copy-init
loop-copy-init c =
    λ x has.
    instances_begin c.args.table.now c.args.asked.text.now c.args.asked.place.now
    (scope_at c.args.table.now c.args.frame).position c.args.number x.type c.args.keys.now.items c.args.count

pub gather_instance-requires-clause-copy : goal.gather_instance-requires-clause-copy
gather_instance-requires-clause-copy c =
    copy_of c.args.table.now c.args.frame c.args.number c.args.count c.loop-copy.copy c.requires.count
    c.loop-copy-test.true

pub returns-in-Err : goal.returns-in-Err
returns-in-Err c =
    λ x has.
    instances_stop c.args.table.now c.args.asked.text.now c.args.asked.place.now
    (scope_at c.args.table.now c.args.frame).position c.args.number x.type c.args.keys.now.items
    c.loop-copy.keys.items c.loop-copy.copy c.args.count c.in-Err.lack c.loop-copy-test.true (c.in-Err.ensures x has)
    (c.loop-copy.invariant x has)

pub loop-copy-preserved : goal.loop-copy-preserved
loop-copy-preserved c =
    λ x has.
    instances_more c.args.table.now c.args.asked.text.now c.args.asked.place.now
    (scope_at c.args.table.now c.args.frame).position c.args.number x.type c.args.keys.now.items
    c.loop-copy.keys.items _ c.loop-copy.copy c.args.count c.loop-copy-test.true (c.in-Ok.ensures x has)
    (c.loop-copy.invariant x has)

pub returns : goal.returns
returns c =
    λ x has.
    instances_end c.args.table.now c.args.asked.text.now c.args.asked.place.now
    (scope_at c.args.table.now c.args.frame).position c.args.number x.type c.args.keys.now.items
    c.loop-copy.keys.items c.loop-copy.copy c.args.count c.loop-copy-test.false (c.loop-copy.invariant x has)
