use Rattle.std.proofs.Common.{◌≡◌, drop, map}
use Rattle.std.specs.List.{list_all}
use Rattle.arm_value.specs.View.{json, member}
use Rattle.function_lists.specs.Members.{is_member_of}
use Rattle.function_lists.proofs.unions.is_in_all.Given as goal

abbrev pub invariant-loop-object : goal.invariant-loop-object
invariant-loop-object l = list_all (is_member_of (member l.field)) (map json (drop l.object-index l.objects))
    ≡ list_all (is_member_of (member l.field)) (map json l.objects)
