use Rattle.plan_standings.proofs.RootLemmas.{table_ready, outputs_there, outputs_so}
use Rattle.plan_standings.proofs.board.PlanStandingsStandings.outputs.Goals as goal

pub root_outputs-requires-clause-there : goal.root_outputs-requires-clause-there
root_outputs-requires-clause-there c = λ n h.
    outputs_there c.args.self.now c.requires.sound c.requires.over.0 c.requires.over.1 n h

pub returns : goal.returns
returns c =
    outputs_so c.args.self.now c.requires.sound c.requires.over.0 c.requires.over.1 c.root_outputs.result
    c.root_outputs.ensures
