use Rattle.std.proofs.Common.{◌∷◌, [], subst}
use Rattle.std.specs.Prelude.{IfOk}
use Rattle.lock_rules.specs.declared.cause.Cause.{Cause}
use Rattle.deploy_core.specs.declared.ending.Ending.TheVariants.{Faulty}
use Rattle.deployment_reports.specs.Sayings.{SaysFailure}
use Rattle.deploy_core.specs.Names.{name_of}
use Rattle.deployment_reports.proofs.SayingLemmas.{refused_task, faulty_task, circular_tasks, says_so, status_so}
use Rattle.deployment_reports.proofs.reporting.report.Goals as goal

pub failed-requires : goal.failed-requires
failed-requires g c =
    refused_task g.S.Standings.tells (g.S.Standings.planned c.args.board.now.0) c.args.board.now.1.events c.args.ending
    c.in-Refused.task c.in-Refused.code c.in-Refused.is c.history.ensures.legal c.requires

pub failed-requires-in-Faulty : goal.failed-requires-in-Faulty
failed-requires-in-Faulty g c =
    faulty_task g.S.Standings.tells (g.S.Standings.planned c.args.board.now.0) c.args.board.now.1.events c.args.ending
    c.in-Faulty.task c.in-Faulty.fault c.in-Faulty.is c.requires

pub circular-requires : goal.circular-requires
circular-requires g c =
    circular_tasks g.S.Standings.tells (g.S.Standings.planned c.args.board.now.0) c.args.board.now.1.events
    c.args.ending c.in-Circular.tasks c.in-Circular.is c.requires

pub returns-in-Succeeded-clause-says : goal.returns-in-Succeeded-clause-says
returns-in-Succeeded-clause-says g c =
    says_so (name_of g.S.Standings.titled (g.S.Standings.planned c.args.board.now.0)) c.args.name.now c.args.ending _
    c.in-Succeeded.is c.success.result c.success.ensures.says

pub returns-in-Succeeded-clause-status : goal.returns-in-Succeeded-clause-status
returns-in-Succeeded-clause-status g c =
    status_so c.args.ending _ c.in-Succeeded.is c.success.result c.success.ensures.status

pub returns-in-Refused-clause-says : goal.returns-in-Refused-clause-says
returns-in-Refused-clause-says g c =
    says_so (name_of g.S.Standings.titled (g.S.Standings.planned c.args.board.now.0)) c.args.name.now c.args.ending _
    c.in-Refused.is c.failed.result c.failed.ensures.says

pub returns-in-Refused-clause-status : goal.returns-in-Refused-clause-status
returns-in-Refused-clause-status g c =
    status_so c.args.ending _ c.in-Refused.is c.failed.result c.failed.ensures.status

pub returns-in-Circular-clause-says : goal.returns-in-Circular-clause-says
returns-in-Circular-clause-says g c =
    says_so (name_of g.S.Standings.titled (g.S.Standings.planned c.args.board.now.0)) c.args.name.now c.args.ending _
    c.in-Circular.is c.circular.result c.circular.ensures.says

pub returns-in-Circular-clause-status : goal.returns-in-Circular-clause-status
returns-in-Circular-clause-status g c =
    status_so c.args.ending _ c.in-Circular.is c.circular.result c.circular.ensures.status

pub returns-in-Faulty-clause-says : goal.returns-in-Faulty-clause-says
returns-in-Faulty-clause-says g c =
    says_so (name_of g.S.Standings.titled (g.S.Standings.planned c.args.board.now.0)) c.args.name.now c.args.ending
    (Faulty c.in-Faulty.task c.in-Faulty.fault) c.in-Faulty.is c.failed-in-Faulty.result
    (subst (λ (why : Cause). IfOk c.failed-in-Faulty.result (λ r. SaysFailure
    (name_of g.S.Standings.titled (g.S.Standings.planned c.args.board.now.0)) c.args.name.now why
    (c.in-Faulty.task ∷ []) r.text)) c.cause_of.ensures c.failed-in-Faulty.ensures.says)

pub returns-in-Faulty-clause-status : goal.returns-in-Faulty-clause-status
returns-in-Faulty-clause-status g c =
    status_so c.args.ending (Faulty c.in-Faulty.task c.in-Faulty.fault) c.in-Faulty.is c.failed-in-Faulty.result
    c.failed-in-Faulty.ensures.status
