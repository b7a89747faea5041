use Rattle.std.proofs.Common.{sym, subst}
use Rattle.arm_value.specs.Look.{fold}
use Rattle.arm_value.specs.View.{json}
use Rattle.deploy_cells.specs.Guarded.{there_if}
use Rattle.plan_cells.specs.Resources.{header_in}
use Rattle.plan_cells.specs.Meaning.{parameter_value}
use Rattle.point_rows.specs.Rows.{told_now}
use Rattle.plan_sight.specs.Seen.{Shows}
use Rattle.plan_table.specs.Found.{scope_at}
use Rattle.plan_table.specs.Whole.{whole_of}
use Rattle.plan_table.proofs.FrameLemmas.{name_read}
use Rattle.plan_values.proofs.ValueLemmas.{spot_there, parameter_within}
use Rattle.point_cells.proofs.CellNowLemmas.{parameter_shown}
use Rattle.point_cells.proofs.parameters.parameter_told.Goals as goal

pub parameter_at-parameter-requires-clause-there : goal.parameter_at-parameter-requires-clause-there
parameter_at-parameter-requires-clause-there c =
    spot_there c.args.register.now.table c.args.frame c.requires.spot.there

pub parameter_at-parameter-requires-clause-number : goal.parameter_at-parameter-requires-clause-number
parameter_at-parameter-requires-clause-number c =
    parameter_within c.args.register.now.table c.args.frame c.args.number c.requires.spot.declared.1

pub is_inside-requires : goal.is_inside-requires
is_inside-requires c = spot_there c.args.register.now.table c.args.frame c.requires.spot.there

pub given_told-requires-clause-there : goal.given_told-requires-clause-there
given_told-requires-clause-there c = spot_there c.args.register.now.table c.args.frame c.requires.spot.there

pub given_told-requires-clause-inside : goal.given_told-requires-clause-inside
given_told-requires-clause-inside c = c.is_inside.ensures.inside c.if-is_inside.true

pub returns-then-is_inside : goal.returns-then-is_inside
returns-then-is_inside c =
    let t = c.args.register.now.table in
    let w = c.args.later.now in
    let h = spot_there t c.args.frame c.requires.spot.there in
    let l = parameter_within t c.args.frame c.args.number c.requires.spot.declared.1 in
    let q = c.parameter_at-parameter.result.now in
    parameter_shown t w c.args.frame c.requires.complete.ready h c.given_told.result c.args.number q
    c.requires.spot.declared.0 l c.parameter_at-parameter.ensures
    (subst (λ x. Shows json t c.given_told.result (told_now t w (there_if (parameter_value (whole_of t)
    (scope_at t c.args.frame).position x q))))
    (sym (name_read (λ z. fold z.name) (header_in (scope_at t c.args.frame).template).parameters c.args.number q l
    c.parameter_at-parameter.ensures)) c.given_told.ensures)

pub returns-else-is_inside : goal.returns-else-is_inside
returns-else-is_inside c =
    let t = c.args.register.now.table in
    let w = c.args.later.now in
    let h = spot_there t c.args.frame c.requires.spot.there in
    let l = parameter_within t c.args.frame c.args.number c.requires.spot.declared.1 in
    let q = c.parameter_at-parameter.result.now in
    parameter_shown t w c.args.frame c.requires.complete.ready h c.root_told.result c.args.number q
    c.requires.spot.declared.0 l c.parameter_at-parameter.ensures
    (subst (λ x. Shows json t c.root_told.result (told_now t w (there_if (parameter_value (whole_of t)
    (scope_at t c.args.frame).position x q))))
    (sym (name_read (λ z. fold z.name) (header_in (scope_at t c.args.frame).template).parameters c.args.number q l
    c.parameter_at-parameter.ensures))
    (subst (λ p. Shows json t c.root_told.result (told_now t w (there_if (parameter_value (whole_of t) p (fold q.name)
    q)))) (sym (c.is_inside.ensures.root c.if-is_inside.false)) c.root_told.ensures))
