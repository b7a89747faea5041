use Rattle.arm_env.specs.Look.{truth_in}
use Rattle.arm_eval.proofs.CellLemmas.{alone_deployment}
use Rattle.arm_eval.proofs.titles.AloneEntries.is_deployment.Goals as goal

pub returns : goal.returns
returns g c =
    rw
    (alone_deployment (g.K.Entries.known c.args.self.now.entries.now) truth_in c.args.key.now)
    c.is_deployment.ensures
