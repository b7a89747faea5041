use Rattle.std.proofs.Common.{subst}
use Rattle.std.specs.Prelude.{MatchOption}
use Rattle.task_aims.specs.Numbers.{AreOfScopes, AreNumbers}
use Rattle.plan_standings.specs.Waits.{table_of}
use Rattle.plan_standings.proofs.standings.first_parts.Goals as goal

pub returns-in-Ok : goal.returns-in-Ok
returns-in-Ok c =
    let g = c.args.plan.now in
    record {
      numbers = subst (λ o. MatchOption o (AreOfScopes (table_of g) g.tasks.items g.keys.items → ⊥)
          (AreNumbers (table_of g) g.tasks.items g.keys.items)) c.in-Some.is c.in_ok-numbers.ensures;
      fit = c.in-Ok.ensures.fit;
      blank = record { no_entry = c.in-Ok.ensures.entries; no_state = c.in-Ok.ensures.states };
    }

pub returns-in-None : goal.returns-in-None
returns-in-None c =
    let g = c.args.plan.now in
    subst (λ o. MatchOption o (AreOfScopes (table_of g) g.tasks.items g.keys.items → ⊥)
    (AreNumbers (table_of g) g.tasks.items g.keys.items)) c.in-None.is c.in_ok-numbers.ensures
