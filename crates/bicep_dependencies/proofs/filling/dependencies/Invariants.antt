use Rattle.std.proofs.Common.{map}
use Rattle.depend_graph.specs.Sets.{keys_of_each}
use Rattle.bicep_declared.specs.View.{declared_tree}
use Rattle.bicep_dependencies.proofs.FillLemmas.{IsFilled}
use Rattle.bicep_dependencies.proofs.filling.dependencies.Given as goal

-- the sets of the symbols before in the order are right
abbrev pub invariant-loop-node : goal.invariant-loop-node
invariant-loop-node l =
    IsFilled (map (λ e. e.kind) l.entries) (map declared_tree l.declarations) l.order (keys_of_each l.sets.items)
    l.node-index
