use Rattle.std.proofs.Common.{◌≡◌, map, drop}
use Rattle.bicep_declared.specs.View.{declared_tree}
use Rattle.bicep_placed.specs.Kinds as spec
use Rattle.bicep_placed.proofs.kinds.whole_kinds.Given as goal

-- the rest goes on from the types so far
abbrev pub invariant-loop-entry : goal.invariant-loop-entry
invariant-loop-entry l =
    spec.whole_kinds (map (λ e. e.kind) l.entries) (map declared_tree l.declarations)
    ≡ spec.whole_kinds_after l.wholes.items (map (λ e. e.kind) (drop l.entry-index l.entries))
    (map declared_tree l.rest)
