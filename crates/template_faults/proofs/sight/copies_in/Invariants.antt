use Rattle.std.proofs.Common.{◌≡◌, drop, map}
use Rattle.arm_value.specs.Json.{pairs}
use Rattle.arm_value.specs.Look.{first_by}
use Rattle.arm_value.specs.View.{member}
use Rattle.template_faults.proofs.sight.copies_in.Given as goal
use Rattle.arm_expr.specs.Brackets.{is_copy}

abbrev pub invariant-loop-field : goal.invariant-loop-field
invariant-loop-field l =
    first_by is_copy (pairs (map member l.field-items))
    ≡ first_by is_copy (pairs (map member (drop l.field-index l.field-items)))
