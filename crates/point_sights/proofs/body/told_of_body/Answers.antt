use Rattle.std.proofs.Common.{ap, Some, None}
use Rattle.plan_cells.specs.Resources.{members_in}
use Rattle.plan_cells.specs.Meaning.{bodies}
use Rattle.plan_table.specs.Listed.{listed_of}
use Rattle.plan_table.specs.Opened.{step_of}
use Rattle.plan_table.specs.Whole.{whole_of}
use Rattle.plan_table.specs.Found.{scope_at}
use Rattle.template_tree.specs.View.{body_tree}
use Rattle.point_sights.proofs.BodyLemmas.{not_there, no_body, listed_members}
use Rattle.point_sights.proofs.body.told_of_body.Goals as goal

pub told_of_members-requires-clause-members : goal.told_of_members-requires-clause-members
told_of_members-requires-clause-members c =
    listed_members c.args.register.now.table c.args.frame c.args.instance.resource (listed_of c.listed_at.result.now)
    (Some c.in-Members.members) c.listed_at.ensures (ap (λ b. members_in (body_tree b)) c.in-Members.is)

pub returns-in-Deployment : goal.returns-in-Deployment
returns-in-Deployment c =
    let t = c.args.register.now.table in
    let f = c.args.frame in
    let s = step_of c.args.instance in
    let n = c.requires.number in
    not_there t c.args.later.now (bodies (whole_of t) (scope_at t f).position s)
    (no_body t f c.requires.complete.ready c.requires.there s n
    (listed_members t f c.args.instance.resource (listed_of c.listed_at.result.now) None c.listed_at.ensures
    (ap (λ b. members_in (body_tree b)) c.in-Deployment.is) n.listed n.has))
