use Rattle.board_dealing.proofs.Stepping.{done_agenda}
use Rattle.board_dealing.proofs.laws.done_tasks_are_kept.Goals as goal

pub returns : goal.returns
returns c = λ x s t tasks h a b seen k e m i j u l d g. done_agenda x s tasks h a seen k e m t i j u l d b g
