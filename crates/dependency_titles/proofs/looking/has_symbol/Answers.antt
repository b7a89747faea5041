use Rattle.std.proofs.Common.{◌||◌, sym, ap, ◌∙◌}
use Rattle.foundation.proofs.Options.{if_ok}
use Rattle.dependency_titles.specs.Titles.{is_any_indexed}
use Rattle.dependency_titles.specs.declared.titles.ScopeTitles.{ScopeTitles}
use Rattle.dependency_titles.proofs.TitleLemmas.{symbol_there}
use Rattle.dependency_titles.proofs.looking.has_symbol.Goals as goal

pub returns-then-branch : goal.returns-then-branch
returns-then-branch c = λ u e.
    ap (λ b. b || is_any_indexed c.args.titles.now.looped c.args.text.now)
    (sym c.if-branch.true ∙ c.in_ok-has.ensures)
    ∙ symbol_there c.args.text.now u c.args.titles.now.symbols c.args.titles.now.looped
    (ap (λ (t : ScopeTitles). t.symbols) e) (ap (λ (t : ScopeTitles). t.looped) e)

pub returns-else-branch : goal.returns-else-branch
returns-else-branch c =
    if_ok _ _ c.is_any_indexed.result c.is_any_indexed.ensures (λ b g u e.
    g
    ∙ ap (λ a. a || is_any_indexed c.args.titles.now.looped c.args.text.now)
    (sym c.if-branch.false ∙ c.in_ok-has.ensures)
    ∙ symbol_there c.args.text.now u c.args.titles.now.symbols c.args.titles.now.looped
    (ap (λ (t : ScopeTitles). t.symbols) e) (ap (λ (t : ScopeTitles). t.looped) e))
