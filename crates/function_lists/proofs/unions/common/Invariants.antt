use Rattle.std.proofs.Common.{◌≡◌, ◌++◌, drop, map}
use Rattle.std.specs.List.{list_all, filter}
use Rattle.arm_value.specs.View.{json, member}
use Rattle.function_lists.specs.Members.{is_member_of}
use Rattle.function_lists.proofs.unions.common.Given as goal

abbrev pub invariant-loop-field : goal.invariant-loop-field
invariant-loop-field l = map member l.all.items ++ filter (λ m. list_all (is_member_of m) (map json l.objects))
    (map member (drop l.field-index l.fields)) ≡ filter (λ m. list_all (is_member_of m) (map json l.objects))
    (map member l.fields)
