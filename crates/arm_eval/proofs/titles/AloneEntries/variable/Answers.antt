use Rattle.arm_value.specs.Look.{fold}
use Rattle.arm_env.specs.Look.{json_in}
use Rattle.arm_eval.proofs.CellLemmas.{alone_variable}
use Rattle.arm_eval.proofs.titles.AloneEntries.variable.Goals as goal

pub returns : goal.returns
returns g c =
    rw
    (alone_variable (g.K.Entries.known c.args.self.now.entries.now) json_in (fold c.args.name.now))
    c.variable.ensures
