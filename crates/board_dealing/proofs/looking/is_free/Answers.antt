use Rattle.deploy_histories.specs.Events.{progress}
use Rattle.board_dealing.proofs.LookLemmas.{free_by}
use Rattle.board_dealing.proofs.looking.is_free.Goals as goal

pub returns-then-is_waiting : goal.returns-then-is_waiting
returns-then-is_waiting c =
    free_by (progress c.args.history.now.events) c.args.agenda.now c.args.task c.is_ready.result
    (c.is_waiting.ensures.waits c.if-is_waiting.true) c.is_ready.ensures.ready c.is_ready.ensures.held

pub returns-else-is_waiting : goal.returns-else-is_waiting
returns-else-is_waiting c = λ w. absurd (c.is_waiting.ensures.over c.if-is_waiting.false w)
