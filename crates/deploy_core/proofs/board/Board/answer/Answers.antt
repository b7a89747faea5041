use Rattle.deploy_core.proofs.board.Board.answer.Goals as goal

pub take-requires-clause-kept : goal.take-requires-clause-kept
take-requires-clause-kept g c = (c.self.inside.seen, c.self.invariant.1)

pub invariant_of-self : goal.invariant_of-self
invariant_of-self g c = (c.self.invariant.0, c.take.ensures.kept c.self.inside.seen c.self.invariant.1)
