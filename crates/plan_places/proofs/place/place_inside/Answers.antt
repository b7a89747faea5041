use Rattle.arm_value.specs.View.{json}
use Rattle.plan_table.specs.Opened.{step_of}
use Rattle.plan_sight.proofs.LookLemmas.{found_some}
use Rattle.plan_places.proofs.NameLemmas.{place_formed, place_stops, line_named}
use Rattle.plan_places.proofs.place.place_inside.Goals as goal

pub returns-in-Ok : goal.returns-in-Ok
returns-in-Ok c =
    place_formed c.args.table.now c.args.around (step_of c.args.instance.now) c.in-Ok-Some.at
    (found_some _ c.in-Ok-Some.field-0 c.in-Ok-Some.at c.in-Ok-Some.field-0-is c.in-Ok-Some.ensures.found)
    (json c.in-Ok.name.now) c.place_named.result c.in-Ok.ensures c.place_named.ensures

pub returns-in-Err-read_at : goal.returns-in-Err-read_at
returns-in-Err-read_at c =
    place_stops c.args.table.now c.args.around (step_of c.args.instance.now) c.in-Ok-Some.at
    (found_some _ c.in-Ok-Some.field-0 c.in-Ok-Some.at c.in-Ok-Some.field-0-is c.in-Ok-Some.ensures.found)
    c.in-Err-read_at.lack c.in-Err-read_at.ensures

pub unreachable-requires : goal.unreachable-requires
unreachable-requires c =
    line_named c.args.table.now c.args.around (step_of c.args.instance.now) c.in-Ok-None.field-0 c.requires.named
    c.in-Ok-None.field-0-is c.in-Ok-None.ensures.missing
