use Rattle.arm_ids.specs.declared.id.ResourceId.{ResourceId}
use Rattle.std.proofs.Common.{List}
use Rattle.plan_deletes.specs.KeySets.{HasKeys}
use Rattle.plan_deletes.proofs.DeleteLemmas.{DeletesLeft}
use Rattle.plan_deletes.proofs.deletes.list_held.Given as goal

abbrev pub invariant-places : goal.invariant-places
invariant-places l = (keys : List ResourceId) → HasKeys l.puts keys
    → DeletesLeft l.place keys l.held l.found.items l.at
