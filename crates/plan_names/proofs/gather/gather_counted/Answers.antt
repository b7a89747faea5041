use Rattle.plan_sight.proofs.LookLemmas.{found_some, found_none}
use Rattle.plan_names.proofs.GatherLemmas.{has_count, counted_gathers, counted_stops}
use Rattle.plan_names.proofs.gather.gather_counted.Goals as goal

pub gather_instances-requires-clause-count : goal.gather_instances-requires-clause-count
gather_instances-requires-clause-count c =
    has_count c.args.table.now c.args.frame c.args.number c.in-Ok-Some.at
    (found_some _ c.in-Ok-Some.field-0 c.in-Ok-Some.at c.in-Ok-Some.field-0-is c.in-Ok-Some.ensures.found)
    c.in-Ok.value.now c.copies.result c.in-Ok.ensures c.copies.ensures

pub returns-in-Ok : goal.returns-in-Ok
returns-in-Ok c =
    λ x has.
    counted_gathers c.args.table.now c.args.asked.text.now c.args.asked.place.now c.args.frame c.args.number
    c.in-Ok-Some.at
    (found_some _ c.in-Ok-Some.field-0 c.in-Ok-Some.at c.in-Ok-Some.field-0-is c.in-Ok-Some.ensures.found)
    x c.requires.number has c.in-Ok.value.now c.copies.result c.in-Ok.ensures c.copies.ensures
    c.args.keys.now.items _ c.gather_instances.result (c.gather_instances.ensures x has)

pub returns-in-Err-read_at : goal.returns-in-Err-read_at
returns-in-Err-read_at c =
    λ x has.
    counted_stops c.args.table.now c.args.asked.text.now c.args.asked.place.now c.args.frame c.args.number
    c.in-Ok-Some.at
    (found_some _ c.in-Ok-Some.field-0 c.in-Ok-Some.at c.in-Ok-Some.field-0-is c.in-Ok-Some.ensures.found)
    x c.requires.number has c.args.keys.now.items c.in-Err-read_at.lack c.in-Err-read_at.ensures

pub unreachable-requires : goal.unreachable-requires
unreachable-requires c =
    found_none _ c.in-Ok-None.field-0 c.in-Ok-None.field-0-is c.in-Ok-None.ensures.missing c.requires.number
