use Rattle.std.proofs.Common.{◌≡◌, ◌++◌, drop, map}
use Rattle.arm_value.specs.View.{json, member}
use Rattle.function_lists.specs.Members.{key_and_value}
use Rattle.function_lists.proofs.members.keys_and_values.Given as goal

abbrev pub invariant-loop-field : goal.invariant-loop-field
invariant-loop-field l = map json l.all.items ++ map key_and_value (map member (drop l.field-index l.fields))
    ≡ map key_and_value (map member l.fields)
