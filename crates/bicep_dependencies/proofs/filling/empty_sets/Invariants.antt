use Rattle.std.proofs.Common.{◌≡◌}
use Rattle.std.specs.Prelude.{replicate, []}
use Rattle.depend_graph.specs.Sets.{keys_of_each}
use Rattle.bicep_dependencies.proofs.filling.empty_sets.Given as goal

abbrev pub invariant-loop : goal.invariant-loop
invariant-loop l = keys_of_each l.sets.items ≡ replicate l.counter []
