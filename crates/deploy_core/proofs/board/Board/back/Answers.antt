use Rattle.deploy_core.proofs.board.Board.back.Goals as goal

pub invariant_of-self : goal.invariant_of-self
invariant_of-self g c = (c.self.invariant.0, c.give_back.ensures.kept c.self.inside.seen c.self.invariant.1)
