use Rattle.std.proofs.Common.{map, subst, sym}
use Rattle.board_dealing.proofs.PassLemmas.{kept_of}
use Rattle.board_replays.specs.declared.noted.BoardFault.{BoardFault}
use Rattle.board_replays.specs.Replays.{noted_of, IsBoardFault}
use Rattle.deploy_core.proofs.board.opened.Goals as goal

pub invariant_of-result : goal.invariant_of-result
invariant_of-result g c = (
  c.reopen.ensures.sound,
  kept_of (g.S.Standings.planned c.args.standings) (g.S.Standings.planned c.reopen.new.standings)
      (g.S.Standings.known c.reopen.new.standings) c.reopen.new.history.count c.reopen.new.history.events
      c.reopen.new.agenda c.reopen.new.seen c.reopen.ensures.planned c.in-Ok.ensures.kept,
)

pub returns-in-Ok-clause-count : goal.returns-in-Ok-clause-count
returns-in-Ok-clause-count g c = c.in-Ok.ensures.kept.tasks_are

pub returns-in-Err-clause-fault : goal.returns-in-Err-clause-fault
returns-in-Err-clause-fault g c =
    subst (λ (f : BoardFault). IsBoardFault (g.S.Standings.planned c.args.standings)
    (map noted_of c.args.answers.items) f) (sym c.dropped.ensures) c.in-Err.ensures.fault
