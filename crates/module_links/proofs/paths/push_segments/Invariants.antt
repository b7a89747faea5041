use Rattle.std.proofs.Common.{◌≡◌, ◌++◌, drop, chars, string_bytes}
use Rattle.arm_ids.specs.Segments.{slashed}
use Rattle.module_links.proofs.paths.push_segments.Given as goal

abbrev pub invariant-loop-segment : goal.invariant-loop-segment
invariant-loop-segment l =
    chars (string_bytes l.text) ++ slashed (drop l.segment-index l.segments) ≡ chars (string_bytes l.initial.text)
    ++ slashed l.segments
