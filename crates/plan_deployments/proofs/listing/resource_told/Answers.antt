use Rattle.std.proofs.Common.{sym, ap, subst, ◌∙◌}
use Rattle.reading.specs.Reading.{read}
use Rattle.plan_table.specs.Found.{scope_at}
use Rattle.plan_sight.specs.Ready.{told_in}
use Rattle.plan_sight.specs.Seen.{Stops}
use Rattle.plan_sight.proofs.LookLemmas.{found_some, found_none}
use Rattle.plan_names.proofs.GatherLemmas.{has_count}
use Rattle.plan_deployments.proofs.ItemLemmas.{counted, counted_stops}
use Rattle.plan_deployments.proofs.listing.resource_told.Goals as goal

pub instances_told-requires-clause-count : goal.instances_told-requires-clause-count
instances_told-requires-clause-count c =
    has_count c.args.table.now c.args.frame c.args.number c.in-Ok-Some.at
    (found_some _ c.in-Ok-Some.field-0 c.in-Ok-Some.at c.in-Ok-Some.field-0-is c.in-Ok-Some.ensures.found)
    c.in-Ok.value.now c.copies.result c.in-Ok.ensures c.copies.ensures

pub returns-in-Ok-clause-told : goal.returns-in-Ok-clause-told
returns-in-Ok-clause-told c =
    let t = c.args.table.now in
    let l = found_some _ c.in-Ok-Some.field-0 c.in-Ok-Some.at c.in-Ok-Some.field-0-is c.in-Ok-Some.ensures.found in
    counted t (scope_at t c.args.frame).position c.args.number c.in-Ok.value.now c.copies.result c.instances_told.result
    (ap (λ x. told_in t (read x)) (sym l.is) ∙ c.in-Ok.ensures) c.copies.ensures c.instances_told.ensures.told

pub returns-in-Err-read_at-clause-told : goal.returns-in-Err-read_at-clause-told
returns-in-Err-read_at-clause-told c =
    let t = c.args.table.now in
    let l = found_some _ c.in-Ok-Some.field-0 c.in-Ok-Some.at c.in-Ok-Some.field-0-is c.in-Ok-Some.ensures.found in
    counted_stops t (scope_at t c.args.frame).position c.args.number c.in-Err-read_at.lack
    (subst (λ x. Stops t c.in-Err-read_at.lack (told_in t (read x))) l.is c.in-Err-read_at.ensures)

pub unreachable-requires : goal.unreachable-requires
unreachable-requires c =
    found_none _ c.in-Ok-None.field-0 c.in-Ok-None.field-0-is c.in-Ok-None.ensures.missing c.requires.number
