use Rattle.std.proofs.Common.{◌≡◌, [], drop, map}
use Rattle.arm_value.specs.Json.{pairs}
use Rattle.arm_value.specs.View.{member}
use Rattle.template_faults.specs.Sights.{plain_names}
use Rattle.template_faults.proofs.sight.plain_names.Given as goal

abbrev pub invariant-loop-field : goal.invariant-loop-field
invariant-loop-field l =
    plain_names [] (pairs (map member l.field-items))
    ≡ plain_names l.names (pairs (map member (drop l.field-index l.field-items)))
