use Rattle.plan_tasks.proofs.AnswerLemmas.{gates_known, cells_answered}
use Rattle.plan_tasks.proofs.laws.answered_rows.Goals as goal

pub returns : goal.returns
returns c = record { gates = λ d rows f h. gates_known rows h; cells = cells_answered }
