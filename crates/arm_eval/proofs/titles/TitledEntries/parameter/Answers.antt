use Rattle.arm_value.specs.Look.{fold}
use Rattle.arm_env.specs.Look.{json_in}
use Rattle.arm_eval.specs.Words.{titles_in}
use Rattle.arm_eval.proofs.CellLemmas.{titled_parameter}
use Rattle.arm_eval.proofs.titles.TitledEntries.parameter.Goals as goal

pub returns : goal.returns
returns g c =
    rw (titled_parameter (g.K.Entries.known c.args.self.now.entries.now) (titles_in c.args.self.now.titles.now)
    c.args.self.now.place.now json_in (fold c.args.name.now)) c.parameter.ensures
