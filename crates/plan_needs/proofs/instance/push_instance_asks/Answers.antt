use Rattle.std.proofs.Common.{map}
use Rattle.arm_value.specs.View.{json}
use Rattle.tag_needs.specs.Tags.{tags_of}
use Rattle.plan_needs.proofs.InstanceLemmas.{asks_listed}
use Rattle.plan_needs.proofs.instance.push_instance_asks.Goals as goal
use Rattle.foundation.proofs.Options.{if_ok}

pub returns : goal.returns
returns c =
    if_ok _ _ c.push_asks.result c.push_asks.ensures (λ u e.
    asks_listed c.args.table.now c.args.opener.frame c.args.opener.resource c.args.opener.copy c.requires.table
    c.requires.instance c.index.result.now (map json c.args.values.now) c.args.loops.now
    c.index-loops-opener.result (tags_of c.args.asks.now) (tags_of c.push_asks.new.tags) c.index.ensures
    c.requires.loops c.index-loops-opener.is e)
