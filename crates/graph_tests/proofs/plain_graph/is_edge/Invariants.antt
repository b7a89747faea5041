use Rattle.std.proofs.Common.{◌≡◌, drop}
use Rattle.graph_tests.specs.Edges.{is_edge}
use Rattle.graph_tests.proofs.plain_graph.is_edge.Given as goal

abbrev pub invariant-loop-edge : goal.invariant-loop-edge
invariant-loop-edge l = is_edge l.edges l.node l.need ≡ is_edge (drop l.edge-index l.edges) l.node l.need
