use Rattle.arm_value.specs.View.{json}
use Rattle.plan_cells.specs.Meaning.{offered_value}
use Rattle.plan_cells.specs.Resources.{header_in}
use Rattle.plan_table.specs.declared.line.Spot.TheVariants as spot
use Rattle.plan_table.specs.Whole.{whole_of}
use Rattle.plan_table.specs.Found.{scope_at}
use Rattle.scope_entries.proofs.ValueLemmas.{spot_there, output_within}
use Rattle.scope_outputs.specs.Outputs.{position_of}
use Rattle.scope_outputs.proofs.TellLemmas.{condition_is, condition_breaks, offered_raw, output_in}
use Rattle.scope_outputs.proofs.telling.condition_told.Goals as goal

pub returns-in-Some : goal.returns-in-Some
returns-in-Some c =
    let t = c.args.register.now.table in
    condition_is t c.args.later.now c.args.frame c.args.number c.requires.complete.ready
    (spot_there t c.args.frame c.requires.spot.there) (json c.in-Ok.condition) c.in-Some.truth c.in-Some.ensures
    c.in-Ok.ensures

pub returns-in-None : goal.returns-in-None
returns-in-None c =
    let t = c.args.register.now.table in
    condition_breaks t c.args.later.now c.args.frame c.args.number c.requires.complete.ready
    (spot_there t c.args.frame c.requires.spot.there) (json c.in-Ok.condition) c.in-None.ensures c.in-Ok.ensures

pub returns-in-Err : goal.returns-in-Err
returns-in-Err c =
    let t = c.args.register.now.table in
    let within = output_within t c.args.frame c.args.number c.requires.spot.declared in
    let o = output_in (header_in (scope_at t c.args.frame).template).outputs c.args.number within in
    c.lack_of_cell.ensures t c.args.later.now (spot.Offered c.args.frame c.args.number)
    (offered_value (whole_of t) (position_of t c.args.frame) o.0)
    (offered_raw t c.args.later.now c.args.frame c.args.number c.requires.complete.ready
    (spot_there t c.args.frame c.requires.spot.there) o.0 within o.1) c.in-Err.ensures
