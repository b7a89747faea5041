use Rattle.std.proofs.Common.{subst, ◌∙◌}
use Rattle.arm_value.specs.View.{json}
use Rattle.plan_sight.specs.Ready.{told_in}
use Rattle.plan_sight.specs.Seen.{Yields}
use Rattle.plan_telling.specs.Sources.{texts_in, read_at}
use Rattle.plan_values.proofs.SiteLemmas.{count_site_is}
use Rattle.plan_values.proofs.scopes.told_of_count.Goals as goal
use Rattle.plan_telling.proofs.TellLemmas.{loops_here}

pub returns : goal.returns
returns c =
    let t = c.args.register.now.table in
    subst (λ e. Yields json t c.told_at.result (told_in t (read_at t e c.args.source.now)))
    (count_site_is t c.args.frame c.requires.complete.ready c.requires.there c.as_slice.result.now
    (texts_in c.early_texts_at.result)
    (c.as_slice.ensures.value ∙ loops_here t c.args.frame c.index.result.now c.requires.there c.index.ensures)
    c.early_texts_at.ensures) c.told_at.ensures
