use Rattle.board_dealing.proofs.PassLemmas.{kept_of}
use Rattle.deploy_core.proofs.board.Board.end.Goals as goal

pub invariant_of-self : goal.invariant_of-self
invariant_of-self g c = (
  c.unrefused_ending.ensures.sound,
  kept_of (g.S.Standings.planned c.self.inside.standings) (g.S.Standings.planned c.unrefused_ending.new.standings)
      (g.S.Standings.known c.unrefused_ending.new.standings) c.self.inside.history.count c.self.inside.history.events
      c.self.inside.agenda c.self.inside.seen c.unrefused_ending.ensures.planned
      (c.unrefused_ending.ensures.kept c.self.inside.seen c.self.invariant.1),
)
