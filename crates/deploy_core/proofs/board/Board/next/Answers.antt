use Rattle.std.proofs.Common.{subst}
use Rattle.board_dealing.specs.Boards.{IsNext}
use Rattle.board_dealing.proofs.DealLemmas.{refused_next}
use Rattle.deploy_core.proofs.board.Board.next.Goals as goal

pub returns-then-is_refused-clause-next : goal.returns-then-is_refused-clause-next
returns-then-is_refused-clause-next g c =
    subst (λ b. IsNext (g.S.Standings.planned b.0) b.1.events c.args.worker c.pause.result b.1.events) c.self.view_is
    (refused_next (g.S.Standings.planned c.self.inside.standings) c.self.inside.history.events c.args.worker
    c.pause.result (c.is_refused.ensures.refused c.if-is_refused.true) c.pause.ensures)
