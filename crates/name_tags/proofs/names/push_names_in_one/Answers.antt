use Rattle.tag_needs.specs.Tags.{tags_of}
use Rattle.plan_table.specs.Listed.{listed_of}
use Rattle.name_tags.proofs.TextLemmas.{names_made}
use Rattle.name_tags.proofs.names.push_names_in_one.Goals as goal
use Rattle.foundation.proofs.Options.{if_ok}

pub returns : goal.returns
returns c =
    if_ok _ _ c.push_spellings.result c.push_spellings.ensures (λ u e place n h.
    names_made c.args.scope place (listed_of c.args.titled.now.listed.now) n c.args.titled.now.key.now
    (tags_of c.args.tags.now) (tags_of c.push_loop.new.tags) (tags_of c.push_key.new.tags)
    (tags_of c.push_spellings.new.tags) h c.in_ok-push_loop.ensures c.in_ok-push_key.ensures e)
