use Rattle.tag_needs.specs.Tags.{tags_of}
use Rattle.plan_needs.proofs.ScopeLemmas.{enter_made}
use Rattle.plan_needs.proofs.tasks.enter_tags.Goals as goal
use Rattle.foundation.proofs.Options.{if_ok}

pub returns-in-Some : goal.returns-in-Some
returns-in-Some c =
    if_ok _ _ c.inner_tags.result c.inner_tags.ensures (λ v e.
    enter_made c.args.table.now c.requires.table c.args.scope c.requires.there (tags_of v) c.in-Some.opener
    c.in-Some.ensures.opened e)
