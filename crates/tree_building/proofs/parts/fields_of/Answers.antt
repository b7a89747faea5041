use Rattle.std.proofs.Common.{◌≡◌, [], subst}
use Rattle.foundation.proofs.Options.{if_ok}
use Rattle.arm_value.specs.Json.{object, pairs}
use Rattle.emitted_trees.specs.Templates as t
use Rattle.emitted_trees.specs.Written.{tree_json}
use Rattle.tree_building.specs.Built.{members_of, all_grown, AreParts}
use Rattle.tree_building.proofs.GrownLemmas.{object_is}
use Rattle.tree_building.proofs.parts.fields_of.Goals as goal

pub returns-in-Ok : goal.returns-in-Ok
returns-in-Ok c = λ ms h.
    if_ok _ (λ f. object (pairs f) ≡ tree_json (t.object ms)) c.with_loops.result c.with_loops.ensures
    (λ f e. object_is ms (members_of c.in-Ok.parts) f (subst (AreParts (all_grown ms ([], []))) c.in-Ok.is h) e)
