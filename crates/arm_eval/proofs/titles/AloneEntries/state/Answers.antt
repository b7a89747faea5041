use Rattle.arm_env.specs.Look.{json_in}
use Rattle.arm_eval.proofs.CellLemmas.{alone_state}
use Rattle.arm_eval.proofs.titles.AloneEntries.state.Goals as goal

pub returns : goal.returns
returns g c =
    rw (alone_state (g.K.Entries.known c.args.self.now.entries.now) json_in c.args.key.now) c.state.ensures
