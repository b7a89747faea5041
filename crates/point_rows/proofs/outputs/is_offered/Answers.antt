use Rattle.std.proofs.Common.{true, false, Ok, Err, subst, sym, refl, ◌∙◌}
use Rattle.plan_sight.specs.declared.lack.Lack.TheVariants as lack
use Rattle.point_rows.specs.Looked.{IsOfferedBy}
use Rattle.point_rows.proofs.ToldNowLemmas.{entry_here}
use Rattle.point_rows.proofs.outputs.is_offered.Goals as goal

pub returns-in-Value : goal.returns-in-Value
returns-in-Value c =
    subst (λ e. IsOfferedBy e c.args.at (Ok true))
    (sym (entry_here c.args.later.now.entries.items c.args.at c.index.result.now c.requires.listed c.index.ensures
    ∙ c.in-Value.is)) refl

pub returns-in-Away : goal.returns-in-Away
returns-in-Away c =
    subst (λ e. IsOfferedBy e c.args.at (Ok false))
    (sym (entry_here c.args.later.now.entries.items c.args.at c.index.result.now c.requires.listed c.index.ensures
    ∙ c.in-Away.is)) refl

pub returns-in-Missing : goal.returns-in-Missing
returns-in-Missing c =
    subst (λ e. IsOfferedBy e c.args.at (Err (lack.Line c.args.at)))
    (sym (entry_here c.args.later.now.entries.items c.args.at c.index.result.now c.requires.listed c.index.ensures
    ∙ c.in-Missing.is)) refl
