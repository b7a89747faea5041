use Rattle.std.proofs.Common.{ℕ, List, subst}
use Rattle.deployment_theorem.specs.Deployed.{HasDeployedBytes}
use Rattle.deploy_cli.proofs.CliLemmas.{deployed}
use Rattle.deploy_cli.proofs.commands.deploy.Goals as goal

pub returns-in-Ok-clause-came : goal.returns-in-Ok-clause-came
returns-in-Ok-clause-came g c =
    let p = g.P.Provider in
    let d = c.args.deploy.now in
    let run = c.deploy_bytes-outcome in
    let file = g.T.Tree.file c.build_source.new.tree in
    deployed p.may p.tells p.faults p.calls g.T.Tree.tells_files d c.plans_are_of_sources.ensures c.args.seats.now
    run.new.seats run.result c.letting_go.result (g.T.Tree.file c.args.tree.now) file c.in-Ok.bytes
    c.in-Ok.ensures.built c.in-Ok.ensures.stays c.letting_go.ensures
    (subst
    (λ (b : List ℕ). HasDeployedBytes p.may p.tells p.faults p.calls c.args.seats.now run.new.seats run.result
    g.T.Tree.tells_files file b d)
    c.as_slice.ensures run.ensures.came)

pub returns-in-Ok-clause-seats : goal.returns-in-Ok-clause-seats
returns-in-Ok-clause-seats g c = c.deploy_bytes-outcome.ensures.came.ready
