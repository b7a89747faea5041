use Rattle.std.proofs.Common.{◌≡◌, take, map, chars, Bor, List, ℕ}
use Rattle.arm_ids.proofs.segment.segments.Given as goal

abbrev pub invariant-loop-part : goal.invariant-loop-part
invariant-loop-part l = l.segments.items ≡ map (λ (x : Bor (List ℕ)). chars x.now) (take l.part-index l.part-items)
