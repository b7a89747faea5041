use Rattle.tag_needs.specs.Tags.{tags_of}
use Rattle.plan_needs.proofs.InstanceLemmas.{names_listed}
use Rattle.plan_needs.proofs.instance.push_keyed_names.Goals as goal
use Rattle.foundation.proofs.Options.{if_ok}

pub returns : goal.returns
returns c =
    if_ok _ _ c.push_names.result c.push_names.ensures (λ u e.
    names_listed c.args.table.now c.args.opener.frame c.args.opener.resource c.args.opener.copy c.requires.table
    c.requires.instance c.index-frame.result.now c.index.result.now c.args.key.now (tags_of c.args.tags.now)
    (tags_of c.push_names.new.tags) c.index-frame.ensures c.index.ensures c.requires.key e)
