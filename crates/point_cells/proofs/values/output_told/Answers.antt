use Rattle.std.proofs.Common.{subst}
use Rattle.arm_value.specs.View.{json}
use Rattle.plan_cells.specs.Sites.{reading_at, scope_site}
use Rattle.point_rows.specs.Rows.{told_now}
use Rattle.plan_sight.specs.Seen.{Yields}
use Rattle.plan_table.specs.Found.{scope_at}
use Rattle.plan_table.specs.Whole.{whole_of}
use Rattle.plan_values.proofs.ValueLemmas.{spot_there, output_within}
use Rattle.point_cells.proofs.CellNowLemmas.{output_shown}
use Rattle.point_cells.proofs.values.output_told.Goals as goal

pub output_at-output-requires-clause-there : goal.output_at-output-requires-clause-there
output_at-output-requires-clause-there c = spot_there c.args.register.now.table c.args.frame c.requires.spot.there

pub output_at-output-requires-clause-number : goal.output_at-output-requires-clause-number
output_at-output-requires-clause-number c =
    output_within c.args.register.now.table c.args.frame c.args.number c.requires.spot.declared

pub told_in_scope-requires-clause-there : goal.told_in_scope-requires-clause-there
told_in_scope-requires-clause-there c = spot_there c.args.register.now.table c.args.frame c.requires.spot.there

pub returns : goal.returns
returns c =
    let t = c.args.register.now.table in
    let w = c.args.later.now in
    output_shown t w c.args.frame c.requires.complete.ready (spot_there t c.args.frame c.requires.spot.there)
    c.told_in_scope.result c.args.number c.output_at-output.result.now
    (output_within t c.args.frame c.args.number c.requires.spot.declared) c.output_at-output.ensures
    (subst (λ m. Yields json t c.told_in_scope.result (told_now t w (reading_at (whole_of t).template t.place.now
    (scope_site (whole_of t).template (scope_at t c.args.frame).position) m))) c.output_source.ensures
    c.told_in_scope.ensures)
