use Rattle.std.proofs.Common.{◌+◌, length}
use Rattle.depend_graph.specs.Circles.{HasCome, work, InOrder}
use Rattle.depend_graph.specs.Sets.{items_of_each}
use Rattle.depend_graph.proofs.Peeling.{Lists}
use Rattle.depend_graph.proofs.graph.Graph.peeled.Given as goal

abbrev pub invariant-loop-node : goal.invariant-loop-node
invariant-loop-node l = Lists l.done.items l.unmet.items l.ready.items l.node

abbrev pub invariant-loop-node-2 : goal.invariant-loop-node-2
invariant-loop-node-2 l = record {
  has_come : HasCome l.self l.done.items l.unmet.items l.ready.items;
  in_order : InOrder l.self l.done.items l.order.items;
}

abbrev pub decreases-loop-node-2 : goal.decreases-loop-node-2
decreases-loop-node-2 l = work l.done.items (items_of_each l.self-inside.dependents.items) + length l.ready.items
