use Rattle.std.proofs.Common.{subst, sym, ap, ◌++◌, ◌∙◌}
use Rattle.arm_value.specs.View.{json}
use Rattle.plan_cells.specs.Resources.{Listed}
use Rattle.plan_cells.specs.Scopes.{loop_at}
use Rattle.plan_table.specs.Listed.{listed_of}
use Rattle.plan_table.specs.Opened.{step_of}
use Rattle.plan_sight.specs.Seen.{Yields}
use Rattle.plan_telling.specs.Sources.{texts_in, read_at}
use Rattle.plan_telling.proofs.TellLemmas.{loops_here}
use Rattle.plan_values.proofs.SiteLemmas.{instance_site_is, one_listed}
use Rattle.point_rows.specs.Rows.{told_now}
use Rattle.point_sights.proofs.scopes.told_in_instance.Goals as goal

pub returns-in-Ok : goal.returns-in-Ok
returns-in-Ok c =
    let t = c.args.register.now.table in
    let l = c.args.later.now in
    let around = c.as_slice-around.ensures.value
    ∙ loops_here t c.args.frame c.index.result.now c.requires.there c.index.ensures in
    let same = one_listed t c.args.frame c.args.instance.resource c.requires.number (listed_of c.listed_at.result.now)
    c.listed_at.ensures in
    let inside = c.in-Ok.ensures
    ∙ ap (λ (x : Listed). loop_at x.declaration.copy c.args.instance.copy ++ c.as_slice-around.result.now) (sym same) in
    subst (λ e. Yields json t c.told_at-told.result (told_now t l (read_at t e c.args.source.now)))
    (instance_site_is t c.args.frame c.requires.complete.ready c.requires.there (step_of c.args.instance)
    c.requires.number c.as_slice.result.now c.as_slice-around.result.now (texts_in c.args.texts) around
    (c.as_slice.ensures.value ∙ inside)) c.told_at-told.ensures
