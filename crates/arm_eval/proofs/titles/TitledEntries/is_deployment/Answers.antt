use Rattle.arm_env.specs.Look.{truth_in}
use Rattle.arm_eval.specs.Words.{titles_in}
use Rattle.arm_eval.proofs.CellLemmas.{titled_deployment}
use Rattle.arm_eval.proofs.titles.TitledEntries.is_deployment.Goals as goal

pub returns : goal.returns
returns g c =
    rw (titled_deployment (g.K.Entries.known c.args.self.now.entries.now) (titles_in c.args.self.now.titles.now)
    c.args.self.now.place.now truth_in c.args.key.now) c.is_deployment.ensures
