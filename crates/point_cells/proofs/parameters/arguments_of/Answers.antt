use Rattle.plan_values.proofs.BoundLemmas.{arguments_given, none_given}
use Rattle.point_cells.proofs.parameters.arguments_of.Goals as goal

pub returns-in-Deployment : goal.returns-in-Deployment
returns-in-Deployment c =
    λ n e q.
    arguments_given c.args.register.now.table c.args.frame c.args.resource c.requires.number c.listed_at.result.now
    c.listed_at.ensures n e q c.in-Deployment.deployment c.as_slice.result.now c.in-Deployment.is c.as_slice.ensures

pub returns-in-Members : goal.returns-in-Members
returns-in-Members c =
    λ n e q.
    none_given c.args.register.now.table c.args.frame c.args.resource c.requires.number c.listed_at.result.now
    c.listed_at.ensures n e q c.in-Members.field-0 c.in-Members.is
