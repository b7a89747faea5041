use Rattle.std.proofs.Common.{ℕ, map, ap}
use Rattle.std.specs.declared.vec.Vec.{Vec}
use Rattle.std.specs.declared.alloc.Global.{Global}
use Rattle.tag_needs.specs.Tags.{tags_of}
use Rattle.plan_needs.proofs.InstanceLemmas.{end_made}
use Rattle.plan_needs.proofs.instance.end_tags.Goals as goal

pub returns : goal.returns
returns c =
    end_made c.args.table.now c.args.opener.frame c.args.opener.resource c.args.opener.copy c.requires.table
    c.requires.instance (tags_of c.new-tags.result) (tags_of c.push_inside.new.tags)
    (tags_of c.push_own_batch.new.tags) (tags_of c.push_instance_names.new.tags)
    (ap (map (λ (t : Vec ℕ Global). t.items)) c.new-tags.ensures.items) c.in_ok-push_inside.ensures
    c.in_ok-push_own_batch.ensures c.in_ok-push_instance_names.ensures
