use Rattle.arm_env.specs.Look.{list_in}
use Rattle.arm_eval.specs.Words.{titles_in}
use Rattle.arm_eval.proofs.CellLemmas.{titled_outputs}
use Rattle.arm_eval.proofs.titles.TitledEntries.outputs.Goals as goal

pub returns : goal.returns
returns g c =
    rw (titled_outputs (g.K.Entries.known c.args.self.now.entries.now) (titles_in c.args.self.now.titles.now)
    c.args.self.now.place.now list_in c.args.key.now) c.outputs.ensures
