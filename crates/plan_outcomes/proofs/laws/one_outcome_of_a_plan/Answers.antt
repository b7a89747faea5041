use Rattle.history_plans.specs.Planned.{planned_by}
use Rattle.plan_outcomes.proofs.laws.one_outcome_of_a_plan.Goals as goal

pub returns : goal.returns
returns g c = record {
  some = λ p held h accepted opening legal given ended os outputs.
      let x = planned_by p held in
      let planned = c.accepted_plans_have_histories.ensures p held accepted in
      let w = c.one_outcome.ensures.some x h planned opening legal given ended in (
        w.0,
        (w.1, c.outputs_of_outcomes.ensures x h planned legal ended os outputs w.0 w.1),
      );
  alone = λ p held h accepted legal ended w v i j.
      c.one_outcome.ensures.alone (planned_by p held) h (c.accepted_plans_have_histories.ensures p held accepted) legal
      ended w v i j;
}
