use Rattle.std.proofs.Common.{◌<◌, length, sym, subst}
use Rattle.std.specs.List.{AllByRecursion}
use Rattle.bicep_circles.proofs.LinkLemmas.{within_at}
use Rattle.bicep_circles.proofs.graph.graph_of.Goals as goal

pub add_needs-requires-clause-are_nodes : goal.add_needs-requires-clause-are_nodes
add_needs-requires-clause-are_nodes c =
    subst (λ n. AllByRecursion (λ k. k < n) c.as_slice.result.now) (sym c.loop-node.invariant.size)
    (subst (AllByRecursion (λ k. k < length c.args.lists.now)) (sym c.as_slice.ensures.value)
    (within_at (length c.args.lists.now) c.args.lists.now c.loop-node.node c.index-lists-node.result
    c.loop-node-test.true c.index-lists-node.is c.requires.within))
