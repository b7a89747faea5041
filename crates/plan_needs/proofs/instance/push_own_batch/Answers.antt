use Rattle.std.proofs.Common.{◌++◌, ◌∙◌, ap}
use Rattle.tag_needs.specs.Tags.{tags_of}
use Rattle.plan_needs.specs.Order.{number_by, loop_codes}
use Rattle.plan_needs.proofs.InstanceLemmas.{few, loop_is}
use Rattle.plan_needs.proofs.instance.push_own_batch.Goals as goal
use Rattle.foundation.proofs.Options.{if_ok}

pub push_batch-requires : goal.push_batch-requires
push_batch-requires c =
    few c.args.table.now c.args.opener.frame c.args.opener.resource c.args.opener.copy c.requires.table
    c.requires.instance

pub returns : goal.returns
returns c =
    if_ok _ _ c.push_batch.result c.push_batch.ensures (λ u e.
    e
    ∙ ap (λ o. tags_of c.args.tags.now
    ++ loop_codes (number_by c.args.batch) c.args.opener.frame c.args.opener.resource c.args.opener.copy o)
    (loop_is c.args.table.now c.args.opener.frame c.args.opener.resource c.args.opener.copy c.requires.table
    c.requires.instance c.index.result.now c.index-2.result.now c.index.ensures c.index-2.ensures))
