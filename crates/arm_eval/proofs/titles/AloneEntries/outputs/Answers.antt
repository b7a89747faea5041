use Rattle.arm_env.specs.Look.{list_in}
use Rattle.arm_eval.proofs.CellLemmas.{alone_outputs}
use Rattle.arm_eval.proofs.titles.AloneEntries.outputs.Goals as goal

pub returns : goal.returns
returns g c =
    rw (alone_outputs (g.K.Entries.known c.args.self.now.entries.now) list_in c.args.key.now) c.outputs.ensures
