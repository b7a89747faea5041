use Rattle.std.proofs.Common.{◌≡◌, ◌++◌, map, length, option_map}
use Rattle.arm_value.specs.View.{json, member}
use Rattle.function_lists.specs.Members.{paired}
use Rattle.function_lists.proofs.members.paired.Given as goal

-- the members so far and those of what is left are all
abbrev pub invariant-loop-rest : goal.invariant-loop-rest
invariant-loop-rest l = option_map (λ ms. map member l.fields.items ++ ms) (paired (map json l.rest))
    ≡ paired (map json l.args)

abbrev pub decreases-loop-rest : goal.decreases-loop-rest
decreases-loop-rest l = length l.rest
