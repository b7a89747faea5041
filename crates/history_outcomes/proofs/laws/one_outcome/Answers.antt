use Rattle.history_laws.proofs.Alone.{one_by_answers}
use Rattle.history_worlds.proofs.Solved.{a_world}
use Rattle.history_holdings.proofs.Holding as holding
use Rattle.history_outcomes.proofs.laws.one_outcome.Goals as goal

pub returns : goal.returns
returns g c = record {
  some = λ x h planned opening legal given ended.
      let a = a_world _ x planned h legal given ended in (
        a.0,
        record {
          satisfies = a.1.0;
          is_allowed = a.1.1.0;
          belongs = a.1.1.1;
          is_held = holding.is_held x planned opening h legal ended a.0 a.1.0 a.1.1.1;
        },
      );
  alone = λ x h planned legal ended w v i j.
      one_by_answers x h planned legal ended w v i.satisfies i.belongs j.satisfies j.belongs;
}
