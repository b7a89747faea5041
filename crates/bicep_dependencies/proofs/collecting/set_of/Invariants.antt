use Rattle.std.proofs.Common.{◌≡◌, ◌||◌, ℕ, map, drop}
use Rattle.depend_graph.specs.Sets.{keys_of_each}
use Rattle.bicep_declared.specs.View.{declared_tree}
use Rattle.bicep_dependencies.specs.Dependencies.{has}
use Rattle.bicep_dependencies.specs.Steps.{any_leads}
use Rattle.bicep_dependencies.proofs.collecting.set_of.Given as goal

-- what the mentions that are left lead to, and what has been added
abbrev pub invariant-loop-number : goal.invariant-loop-number
invariant-loop-number l =
    (n : ℕ)
    → (any_leads (map declared_tree l.declarations) (keys_of_each l.sets) n (drop l.number-index l.mentions)
    || has l.out.keys n) ≡ any_leads (map declared_tree l.declarations) (keys_of_each l.sets) n l.mentions
