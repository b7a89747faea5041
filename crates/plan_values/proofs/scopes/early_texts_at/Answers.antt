use Rattle.std.proofs.Common.{ap, ◌∙◌}
use Rattle.plan_cells.specs.Sites.{early_texts_by}
use Rattle.plan_values.proofs.SiteLemmas.{form_here}
use Rattle.plan_values.proofs.scopes.early_texts_at.Goals as goal

pub returns : goal.returns
returns c =
    c.early_texts_by.ensures
    ∙ ap early_texts_by (form_here c.args.register.now.table c.args.frame c.index.result.now c.requires c.index.ensures)
