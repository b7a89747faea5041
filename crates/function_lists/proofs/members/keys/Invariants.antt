use Rattle.std.proofs.Common.{◌≡◌, ◌++◌, drop, map}
use Rattle.arm_value.specs.Json.{text}
use Rattle.arm_value.specs.View.{json, member}
use Rattle.function_lists.proofs.members.keys.Given as goal

abbrev pub invariant-loop-field : goal.invariant-loop-field
invariant-loop-field l = map json l.keys.items ++ map (λ m. text m.0) (map member (drop l.field-index l.fields))
    ≡ map (λ m. text m.0) (map member l.fields)
