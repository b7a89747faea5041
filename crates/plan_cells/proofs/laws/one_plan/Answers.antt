use Rattle.plan_cells.proofs.PlanLemmas.{same_work, same_needs}
use Rattle.plan_cells.proofs.laws.one_plan.Goals as goal

pub returns : goal.returns
returns c = record {
  work = λ d mode held q x s e w h. same_work d held q s w h mode x e;
  needs = λ d held q u v s w h. same_needs d held q s w h u v;
}
