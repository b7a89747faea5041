use Rattle.std.proofs.Common.{map}
use Rattle.bicep_declared.specs.View.{declared_tree}
use Rattle.bicep_states.proofs.TableLemmas.{IsFilled}
use Rattle.bicep_states.proofs.table.state_table.Given as goal

abbrev pub invariant-loop-node : goal.invariant-loop-node
invariant-loop-node l =
    IsFilled (map (λ e. e.kind) l.entries) (map declared_tree l.declarations) l.order l.table.own.items
    l.table.whole.items l.node-index
