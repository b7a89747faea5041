use Rattle.arm_value.specs.Look.{fold}
use Rattle.arm_env.specs.Look.{json_in}
use Rattle.arm_eval.specs.Words.{titles_in}
use Rattle.arm_eval.proofs.CellLemmas.{titled_output}
use Rattle.arm_eval.proofs.titles.TitledEntries.output.Goals as goal

pub returns : goal.returns
returns g c =
    rw (titled_output (g.K.Entries.known c.args.self.now.entries.now) (titles_in c.args.self.now.titles.now)
    c.args.self.now.place.now json_in c.args.key.now (fold c.args.name.now)) c.output.ensures
