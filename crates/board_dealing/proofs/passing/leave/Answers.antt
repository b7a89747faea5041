use Rattle.board_dealing.proofs.PassLemmas.{leave_done}
use Rattle.board_dealing.proofs.passing.leave.Goals as goal

pub left-requires-clause-done : goal.left-requires-clause-done
left-requires-clause-done g c =
    leave_done c.args.history.now c.leave.new.self c.args.task c.leave.result c.in_ok-leave.field-0 c.in_ok-leave.was
    c.leave.ensures
