use Rattle.std.proofs.Common.{◌≡◌}
use Rattle.std.specs.Prelude.{replicate, []}
use Rattle.depend_graph.specs.Sets.{items_of_each}
use Rattle.depend_graph.proofs.standing.empty_lists.Given as goal

abbrev pub invariant-loop : goal.invariant-loop
invariant-loop l = items_of_each l.lists.items ≡ replicate l.counter []
