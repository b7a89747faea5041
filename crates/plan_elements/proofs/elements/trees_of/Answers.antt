use Rattle.std.proofs.Common.{ap, sym, ◌∙◌}
use Rattle.plan_cells.specs.Resources.{Listed}
use Rattle.plan_table.specs.Listed.{listed_of}
use Rattle.plan_values.proofs.SiteLemmas.{two_listed}
use Rattle.plan_elements.proofs.elements.trees_of.Goals as goal

pub returns : goal.returns
returns c = λ x e.
    ap (λ (y : Listed). y.declaration.depends_on) (two_listed c.args.register.now.table c.args.frame c.args.resource x
    (listed_of c.listed_at.result.now) e c.listed_at.ensures) ∙ sym c.as_slice.ensures.items
