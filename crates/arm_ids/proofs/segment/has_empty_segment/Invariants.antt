use Rattle.std.proofs.Common.{◌≡◌, drop}
use Rattle.std.specs.List.{list_any}
use Rattle.arm_ids.specs.Segments.{is_empty}
use Rattle.arm_ids.proofs.segment.has_empty_segment.Given as goal

abbrev pub invariant-loop-segment : goal.invariant-loop-segment
invariant-loop-segment l = list_any is_empty l.segments ≡ list_any is_empty (drop l.segment-index l.segments)
