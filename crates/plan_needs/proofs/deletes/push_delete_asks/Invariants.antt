use Rattle.std.proofs.Common.{◌≡◌, ◌++◌, drop}
use Rattle.tag_needs.specs.Tags.{tags_in}
use Rattle.plan_table.specs.declared.table.Table.{Table}
use Rattle.plan_needs.specs.Lists.{asks_of_deletes}
use Rattle.plan_needs.proofs.deletes.push_delete_asks.Given as goal

abbrev pub invariant-loop-key : goal.invariant-loop-key
invariant-loop-key l = (t : Table) → tags_in l.all.items ++ asks_of_deletes t (drop l.key-index l.keys)
    ≡ tags_in l.initial.all.items ++ asks_of_deletes t l.keys
