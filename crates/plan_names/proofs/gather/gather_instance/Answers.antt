use Rattle.plan_sight.proofs.LookLemmas.{found_some}
use Rattle.plan_names.proofs.GatherLemmas.{instance_read, instance_lacks, no_copy}
use Rattle.plan_names.proofs.gather.gather_instance.Goals as goal

pub returns-in-Ok : goal.returns-in-Ok
returns-in-Ok c =
    let t = c.args.table.now in
    let l = found_some _ c.in-Ok-Some.field-0 c.in-Ok-Some.at c.in-Ok-Some.field-0-is c.in-Ok-Some.ensures.found in
    λ x has.
    instance_read t c.args.asked.text.now c.args.asked.place.now c.args.frame c.args.number c.args.copy
    c.index.result.now
    c.index-2.result.now c.requires.there c.index.ensures c.requires.number c.index-2.ensures x has c.in-Ok-Some.at l
    c.in-Ok.name.now c.args.keys.now.items _ c.push_name.result c.in-Ok.ensures c.push_name.ensures

pub returns-in-Err-read_at : goal.returns-in-Err-read_at
returns-in-Err-read_at c =
    let t = c.args.table.now in
    let l = found_some _ c.in-Ok-Some.field-0 c.in-Ok-Some.at c.in-Ok-Some.field-0-is c.in-Ok-Some.ensures.found in
    λ x has.
    instance_lacks t c.args.asked.text.now c.args.asked.place.now c.args.frame c.args.number c.args.copy
    c.in-Ok-Some.at l
    x.type c.args.keys.now.items c.args.keys.now.items c.in-Err-read_at.lack c.in-Err-read_at.ensures

pub unreachable-requires : goal.unreachable-requires
unreachable-requires c =
    no_copy c.args.table.now c.args.frame c.args.number c.args.copy c.requires.ready c.requires.there c.requires.number
    c.requires.copy c.in-Ok-None.field-0 c.in-Ok-None.field-0-is c.in-Ok-None.ensures.missing
