use Rattle.arm_env.specs.Look.{json_in}
use Rattle.arm_eval.specs.Words.{titles_in}
use Rattle.arm_eval.proofs.CellLemmas.{titled_state}
use Rattle.arm_eval.proofs.titles.TitledEntries.state.Goals as goal

pub returns : goal.returns
returns g c =
    rw (titled_state (g.K.Entries.known c.args.self.now.entries.now) (titles_in c.args.self.now.titles.now)
    c.args.self.now.place.now json_in c.args.key.now) c.state.ensures
