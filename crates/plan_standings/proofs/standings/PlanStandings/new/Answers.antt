use Rattle.std.proofs.Common.{refl, subst}
use Rattle.std.specs.Prelude.{MatchOption}
use Rattle.task_aims.specs.Numbers.{AreOfScopes}
use Rattle.plan_standings.specs.Waits.{table_of}
use Rattle.plan_standings.specs.Kept.{AreFirst}
use Rattle.plan_standings.proofs.LeftLemmas.{blank_told, blank_seen}
use Rattle.plan_standings.proofs.standings.PlanStandings.new.Goals as goal

pub returns-in-Some : goal.returns-in-Some
returns-in-Some c =
    let g = c.args.plan.now in
    let first = subst (λ o. MatchOption o (AreOfScopes (table_of g) g.tasks.items g.keys.items → ⊥) (AreFirst g))
    c.in-Some.is c.in_ok-parts.ensures in
    record {
      plan = refl;
      held_then = refl;
      sound = record {
        is_planned = c.requires.planned;
        has_histories = c.requires.histories;
        numbers = first.numbers;
        fit = first.fit;
        told = blank_told g c.args.held.now c.requires.planned c.requires.histories c.in-Some.parts.later first.blank;
      };
      seen = blank_seen g c.args.held.now c.requires.planned c.requires.histories c.in-Some.parts.later first.blank
          c.opening_is_seen.ensures;
    }

pub returns-in-None : goal.returns-in-None
returns-in-None c =
    let g = c.args.plan.now in
    subst (λ o. MatchOption o (AreOfScopes (table_of g) g.tasks.items g.keys.items → ⊥) (AreFirst g)) c.in-None.is
    c.in_ok-parts.ensures
