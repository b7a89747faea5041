use Rattle.deploy_core.specs.Names.{name_of}
use Rattle.deployment_reports.proofs.SayingLemmas.{failure_so}
use Rattle.deployment_reports.proofs.sayings.failure.Goals as goal

pub returns : goal.returns
returns g c =
    failure_so (name_of g.S.Standings.titled (g.S.Standings.planned c.args.board.now.0)) c.args.name.now
    c.args.why.now c.args.tasks.now c.in_ok-names.names.items c.as_slice.result.now
    c.in_ok-names.ensures c.as_slice.ensures.value
    c.failure_of.result c.failure_of.ensures
