use Rattle.std.proofs.Common.{ℕ, map, ap}
use Rattle.std.specs.declared.vec.Vec.{Vec}
use Rattle.std.specs.declared.alloc.Global.{Global}
use Rattle.tag_needs.specs.Tags.{tags_of}
use Rattle.argument_faults.proofs.InstanceLemmas.{names_listed}
use Rattle.dependency_faults.proofs.NameLemmas.{with_none}
use Rattle.dependency_faults.proofs.names.keyed_names.Goals as goal

pub returns : goal.returns
returns c =
    with_none (tags_of c.new-tags.result) _ _
    (ap (map (λ (t : Vec ℕ Global). t.items)) c.new-tags.ensures.items)
    (names_listed c.args.table.now c.args.opener.frame c.args.opener.resource c.args.opener.copy c.requires.table
    c.requires.instance c.index-frame.result.now c.index.result.now c.args.key.now (tags_of c.new-tags.result)
    (tags_of c.push_names.new.tags) c.index-frame.ensures c.index.ensures c.requires.key c.in_ok-push_names.ensures)
