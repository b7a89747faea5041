use Rattle.std.proofs.Common.{◌≡◌, ◌∷◌, map, take}
use Rattle.bicep_names.proofs.loops.within.Given as goal

-- the new loop, and the loops so far
abbrev pub invariant-loop-outer : goal.invariant-loop-outer
invariant-loop-outer l = map (λ x. x.now) l.inner.items ≡ l.names ∷ map (λ x. x.now) (take l.outer-index l.loops)
