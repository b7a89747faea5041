use Rattle.std.proofs.Common.{subst}
use Rattle.tree_building.specs.Built.{members_of, Matches}
use Rattle.tree_building.proofs.GrownLemmas.{tree_made, loop_made}
use Rattle.tree_building.proofs.parts.with_made.Goals as goal

pub returns-in-Tree : goal.returns-in-Tree
returns-in-Tree c = λ v h.
    tree_made v c.in-Tree.value c.args.name.now (members_of c.args.parts) c.with_value_at.result
    (subst (Matches v) c.in-Tree.is h) c.with_value_at.ensures

pub returns-in-Each : goal.returns-in-Each
returns-in-Each c = λ v h.
    loop_made v c.in-Each.looped c.args.name.now (members_of c.args.parts) c.with_loop_at.result
    (subst (Matches v) c.in-Each.is h) c.with_loop_at.ensures
