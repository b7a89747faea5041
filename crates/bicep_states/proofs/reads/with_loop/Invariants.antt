use Rattle.std.proofs.Common.{◌≡◌, ◌∷◌, take}
use Rattle.bicep_states.proofs.reads.with_loop.Given as goal

-- the new loop, and the loops so far
abbrev pub invariant-loop-item : goal.invariant-loop-item
invariant-loop-item l = l.inner.items ≡ l.reads ∷ take l.item-index l.items
