use Rattle.tag_needs.specs.Tags.{tags_of}
use Rattle.plan_needs.proofs.ScopeLemmas.{leave_asks_made}
use Rattle.plan_needs.proofs.tasks.leave_asks.Goals as goal
use Rattle.foundation.proofs.Options.{if_ok}

pub returns-in-Some : goal.returns-in-Some
returns-in-Some c =
    if_ok _ _ c.inner_asks.result c.inner_asks.ensures (λ v e vs.
    leave_asks_made c.args.table.now c.requires.table c.args.scope c.requires.there (tags_of v) c.in-Some.opener vs
    c.in-Some.ensures.opened e)
