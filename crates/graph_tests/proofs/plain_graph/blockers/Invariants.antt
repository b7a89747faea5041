use Rattle.std.proofs.Common.{◌≡◌, ◌++◌, ◌-◌}
use Rattle.std.specs.Prelude.{filter}
use Rattle.std.specs.List.{range_with_len}
use Rattle.graph_tests.specs.Edges.{is_blocker, blockers_of}
use Rattle.graph_tests.proofs.plain_graph.blockers.Given as goal

abbrev pub invariant-loop-need : goal.invariant-loop-need
invariant-loop-need l =
    blockers_of l.edges l.done l.count l.node ≡ l.found.items ++ filter (is_blocker l.edges l.done l.node)
    (range_with_len l.need (l.count - l.need))
