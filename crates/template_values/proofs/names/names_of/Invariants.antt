use Rattle.std.proofs.Common.{◌≡◌, ◌++◌, drop, map}
use Rattle.arm_value.specs.Json.{keys}
use Rattle.arm_value.specs.View.{member}
use Rattle.template_values.proofs.names.names_of.Given as goal

abbrev pub invariant-loop-field : goal.invariant-loop-field
invariant-loop-field l =
    keys (map member l.field-items) ≡ l.names ++ keys (map member (drop l.field-index l.field-items))
