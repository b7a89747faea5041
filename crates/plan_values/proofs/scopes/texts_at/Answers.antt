use Rattle.std.proofs.Common.{ap, ◌∙◌}
use Rattle.plan_cells.specs.Sites.{texts_by}
use Rattle.plan_values.proofs.SiteLemmas.{form_here}
use Rattle.plan_values.proofs.scopes.texts_at.Goals as goal

pub returns : goal.returns
returns c =
    c.texts_by.ensures
    ∙ ap texts_by (form_here c.args.register.now.table c.args.frame c.index.result.now c.requires c.index.ensures)
