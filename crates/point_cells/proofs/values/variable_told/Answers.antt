use Rattle.std.proofs.Common.{subst}
use Rattle.arm_value.specs.View.{json}
use Rattle.plan_cells.specs.Sites.{reading_at, scope_site}
use Rattle.point_rows.specs.Rows.{told_now}
use Rattle.plan_sight.specs.Seen.{Yields}
use Rattle.plan_table.specs.Found.{scope_at}
use Rattle.plan_table.specs.Whole.{whole_of}
use Rattle.plan_values.proofs.ValueLemmas.{spot_there, variable_within}
use Rattle.point_cells.proofs.CellNowLemmas.{variable_shown}
use Rattle.point_cells.proofs.values.variable_told.Goals as goal

pub variable_at-variable-requires-clause-there : goal.variable_at-variable-requires-clause-there
variable_at-variable-requires-clause-there c = spot_there c.args.register.now.table c.args.frame c.requires.spot.there

pub variable_at-variable-requires-clause-number : goal.variable_at-variable-requires-clause-number
variable_at-variable-requires-clause-number c =
    variable_within c.args.register.now.table c.args.frame c.args.number c.requires.spot.declared.1

pub told_in_scope-requires-clause-there : goal.told_in_scope-requires-clause-there
told_in_scope-requires-clause-there c = spot_there c.args.register.now.table c.args.frame c.requires.spot.there

pub returns : goal.returns
returns c =
    let t = c.args.register.now.table in
    let w = c.args.later.now in
    variable_shown t w c.args.frame c.requires.complete.ready (spot_there t c.args.frame c.requires.spot.there)
    c.told_in_scope.result c.args.number c.variable_at-variable.result.now c.requires.spot.declared.0
    (variable_within t c.args.frame c.args.number c.requires.spot.declared.1) c.variable_at-variable.ensures
    (subst (λ m. Yields json t c.told_in_scope.result (told_now t w (reading_at (whole_of t).template t.place.now
    (scope_site (whole_of t).template (scope_at t c.args.frame).position) m))) c.source_of.ensures
    c.told_in_scope.ensures)
