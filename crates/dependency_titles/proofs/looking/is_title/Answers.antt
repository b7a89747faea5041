use Rattle.std.proofs.Common.{Some, sym, ap, ◌∙◌}
use Rattle.foundation.proofs.Options.{if_ok}
use Rattle.plan_faults.specs.Dependencies.{is_title}
use Rattle.dependency_titles.specs.declared.titles.ScopeTitles.{ScopeTitles}
use Rattle.dependency_titles.proofs.TitleLemmas.{loop_there}
use Rattle.dependency_titles.proofs.looking.is_title.Goals as goal

pub returns-in-One : goal.returns-in-One
returns-in-One c =
    if_ok _ _ c.has.result c.has.ensures (λ b g u e.
    g ∙ loop_there c.args.text.now u c.args.titles.now.loops (ap (λ (t : ScopeTitles). t.loops) e)
    ∙ ap (λ m. is_title m (Some u) c.args.text.now) (sym c.in-One.is))
