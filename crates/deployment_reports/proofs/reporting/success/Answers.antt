use Rattle.deployment_reports.specs.Sayings.{success_line}
use Rattle.deployment_reports.proofs.SayingLemmas.{ends_so}
use Rattle.deployment_reports.proofs.reporting.success.Goals as goal

pub returns-in-Ok-clause-says : goal.returns-in-Ok-clause-says
returns-in-Ok-clause-says c =
    ends_so c.in-Ok.line (success_line c.args.name.now) c.args.outputs.items c.listed.result c.in-Ok.ensures
    c.listed.ensures.says
