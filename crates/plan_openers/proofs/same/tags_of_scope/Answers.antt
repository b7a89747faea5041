use Rattle.tag_needs.specs.Tags.{tags_of}
use Rattle.plan_openers.proofs.SameLemmas.{opened_tags}
use Rattle.plan_openers.proofs.same.tags_of_scope.Goals as goal
use Rattle.foundation.proofs.Options.{if_ok}

pub returns-in-Some : goal.returns-in-Some
returns-in-Some c =
    if_ok _ _ c.tags_of_opener.result c.tags_of_opener.ensures (λ v e.
    opened_tags c.args.table.now c.requires.table c.args.frame c.in-Some.opener (tags_of v) c.requires.there
    c.in-Some.ensures.opened e)
