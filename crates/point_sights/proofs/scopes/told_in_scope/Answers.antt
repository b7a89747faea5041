use Rattle.std.proofs.Common.{subst, ◌∙◌}
use Rattle.arm_value.specs.View.{json}
use Rattle.point_rows.specs.Rows.{told_now}
use Rattle.plan_sight.specs.Seen.{Yields}
use Rattle.plan_telling.specs.Sources.{texts_in, read_at}
use Rattle.plan_values.proofs.SiteLemmas.{scope_site_is}
use Rattle.point_sights.proofs.scopes.told_in_scope.Goals as goal
use Rattle.plan_telling.proofs.TellLemmas.{loops_here}

pub returns : goal.returns
returns c =
    let t = c.args.register.now.table in
    subst (λ e. Yields json t c.told_at.result (told_now t c.args.later.now (read_at t e c.args.source.now)))
    (scope_site_is t c.args.frame c.requires.complete.ready c.requires.there c.as_slice.result.now
    (texts_in c.texts_at.result)
    (c.as_slice.ensures.value ∙ loops_here t c.args.frame c.index.result.now c.requires.there c.index.ensures)
    c.texts_at.ensures) c.told_at.ensures
