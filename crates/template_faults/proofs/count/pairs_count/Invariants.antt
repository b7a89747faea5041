use Rattle.std.proofs.Common.{◌≡◌, drop, map}
use Rattle.arm_value.specs.Json.{pairs}
use Rattle.arm_value.specs.View.{member}
use Rattle.template_faults.specs.Counts.{pairs_count}
use Rattle.template_faults.proofs.count.pairs_count.Given as goal

abbrev pub invariant-loop-field : goal.invariant-loop-field
invariant-loop-field l =
    pairs_count 0 (pairs (map member l.field-items))
    ≡ pairs_count l.count (pairs (map member (drop l.field-index l.field-items)))
