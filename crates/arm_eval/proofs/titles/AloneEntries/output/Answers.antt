use Rattle.arm_value.specs.Look.{fold}
use Rattle.arm_env.specs.Look.{json_in}
use Rattle.arm_eval.proofs.CellLemmas.{alone_output}
use Rattle.arm_eval.proofs.titles.AloneEntries.output.Goals as goal

pub returns : goal.returns
returns g c =
    rw (alone_output (g.K.Entries.known c.args.self.now.entries.now) json_in c.args.key.now
    (fold c.args.name.now)) c.output.ensures
