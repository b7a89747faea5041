use Rattle.std.proofs.Common.{◌≡◌, ◌++◌, drop, map, chars, string_bytes}
use Rattle.arm_ids.specs.Segments.{slashed}
use Rattle.arm_ids.proofs.segment.slashed.Given as goal

abbrev pub invariant-loop-segment : goal.invariant-loop-segment
invariant-loop-segment l =
    chars (string_bytes l.text) ++ slashed (map (λ x. chars x.now) (drop l.segment-index l.segments))
    ≡ slashed (map (λ x. chars x.now) l.segments)
