use Rattle.std.proofs.Common.{ℕ, map, ap}
use Rattle.std.specs.declared.vec.Vec.{Vec}
use Rattle.std.specs.declared.alloc.Global.{Global}
use Rattle.arm_value.specs.View.{json}
use Rattle.tag_needs.specs.Tags.{tags_of}
use Rattle.plan_needs.proofs.InstanceLemmas.{start_made}
use Rattle.plan_needs.proofs.instance.start_asks.Goals as goal

pub returns : goal.returns
returns c =
    start_made c.args.table.now c.args.opener.frame c.args.opener.resource c.args.opener.copy c.requires.table
    c.requires.instance (map json c.args.values.now) (tags_of c.new-asks.result) (tags_of c.push_entry.new.tags)
    (tags_of c.push_own_batch.new.tags) (tags_of c.push_instance_asks.new.asks)
    (ap (map (λ (t : Vec ℕ Global). t.items)) c.new-asks.ensures.items) c.in_ok-push_entry.ensures
    c.in_ok-push_own_batch.ensures c.in_ok-push_instance_asks.ensures
