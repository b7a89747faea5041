use Rattle.std.proofs.Common.{◌≡◌, drop}
use Rattle.graph_tests.specs.Edges.{is_chain}
use Rattle.graph_tests.proofs.plain_graph.is_chain.Given as goal

abbrev pub invariant-loop-i : goal.invariant-loop-i
invariant-loop-i l = is_chain l.edges l.done l.nodes l.end ≡ is_chain l.edges l.done (drop l.i l.nodes) l.end
