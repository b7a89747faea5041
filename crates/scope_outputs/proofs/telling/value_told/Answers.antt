use Rattle.std.proofs.Common.{sym, ◌∙◌}
use Rattle.arm_value.specs.View.{json}
use Rattle.plan_cells.specs.Meaning.{output_value}
use Rattle.plan_table.specs.declared.line.Spot.TheVariants as spot
use Rattle.plan_table.specs.Whole.{whole_of}
use Rattle.scope_entries.proofs.ValueLemmas.{spot_there, output_within}
use Rattle.scope_outputs.specs.Outputs.{position_of}
use Rattle.scope_outputs.proofs.TellLemmas.{value_is, value_breaks, output_raw}
use Rattle.scope_outputs.proofs.telling.value_told.Goals as goal

pub returns-then-is_of : goal.returns-then-is_of
returns-then-is_of c =
    let t = c.args.register.now.table in
    value_is t c.args.later.now c.args.frame c.args.number c.requires.complete.ready
    (spot_there t c.args.frame c.requires.spot.there) c.output_at-declared.result.now
    (output_within t c.args.frame c.args.number c.requires.spot.declared) c.output_at-declared.ensures
    (json c.in-Ok.value) (sym c.is_of.ensures ∙ c.if-is_of.true) c.in-Ok.ensures

pub returns-else-is_of : goal.returns-else-is_of
returns-else-is_of c =
    let t = c.args.register.now.table in
    value_breaks t c.args.later.now c.args.frame c.args.number c.requires.complete.ready
    (spot_there t c.args.frame c.requires.spot.there) c.output_at-declared.result.now
    (output_within t c.args.frame c.args.number c.requires.spot.declared) c.output_at-declared.ensures
    (json c.in-Ok.value) (sym c.is_of.ensures ∙ c.if-is_of.false) c.in-Ok.ensures

pub returns-in-Err : goal.returns-in-Err
returns-in-Err c =
    let t = c.args.register.now.table in
    c.lack_of_cell.ensures t c.args.later.now (spot.Output c.args.frame c.args.number)
    (output_value (whole_of t) (position_of t c.args.frame) c.output_at-declared.result.now)
    (output_raw t c.args.later.now c.args.frame c.args.number c.requires.complete.ready
    (spot_there t c.args.frame c.requires.spot.there) c.output_at-declared.result.now
    (output_within t c.args.frame c.args.number c.requires.spot.declared) c.output_at-declared.ensures)
    c.in-Err.ensures
