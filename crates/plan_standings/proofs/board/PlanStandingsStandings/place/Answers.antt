use Rattle.std.proofs.Common.{◌≡◌, Some, ap, subst}
use Rattle.std.specs.Prelude.{IfOk, option_map}
use Rattle.template_tree.specs.Tree.{TemplateTree}
use Rattle.plan_cells.specs.Meaning.{Deployment}
use Rattle.plan_table.specs.Whole.{whole_of}
use Rattle.plan_paths.specs.Texts.{a_position, scope_text}
use Rattle.task_standings.specs.Standings.{scope_at}
use Rattle.plan_standings.specs.Kept.{planned_of}
use Rattle.plan_standings.specs.Titles.{or_root}
use Rattle.plan_standings.specs.Waits.{table_of}
use Rattle.plan_standings.proofs.TitleLemmas.{titled_so}
use Rattle.plan_standings.proofs.board.PlanStandingsStandings.place.Goals as goal

pub place_of-requires-clause-scope : goal.place_of-requires-clause-scope
place_of-requires-clause-scope c =
    let text = scope_text a_position (whole_of (table_of c.args.self.now.plan.now)).template in
    (text c.requires.scope.0, ap (option_map text) c.requires.scope.1)

pub returns : goal.returns
returns c =
    let o = scope_at (planned_of c.args.self.now) c.args.task in
    subst (λ (t : TemplateTree). IfOk c.or_root.result
    (λ r. option_map (λ q. or_root (scope_text a_position t q)) o ≡ Some r))
    (ap (λ (d : Deployment). d.template) c.requires.sound.is_planned.whole)
    (titled_so (scope_text a_position (whole_of (table_of c.args.self.now.plan.now)).template) o c.in_ok-place.place
    c.or_root.result c.in_ok-place.ensures c.or_root.ensures)
