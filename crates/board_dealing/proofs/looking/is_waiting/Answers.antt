use Rattle.std.proofs.Common.{sym, ◌∙◌}
use Rattle.foundation.proofs.TruthValues.{of_not, of_not_false}
use Rattle.board_dealing.proofs.LookLemmas.{waits_by, done_not_waiting, begun_not_waiting}
use Rattle.board_dealing.proofs.looking.is_waiting.Goals as goal

pub returns-then-is_done-clause-over : goal.returns-then-is_done-clause-over
returns-then-is_done-clause-over c = λ f w. done_not_waiting _ (sym c.is_done.ensures ∙ c.if-is_done.true) w

pub returns-clause-waits : goal.returns-clause-waits
returns-clause-waits c = λ e. waits_by _ (sym c.is_done.ensures ∙ c.if-is_done.false) (sym c.is_begun.ensures ∙
    of_not _ e)

pub returns-clause-over : goal.returns-clause-over
returns-clause-over c = λ e w. begun_not_waiting _ (sym c.is_begun.ensures ∙ of_not_false _ e) w
