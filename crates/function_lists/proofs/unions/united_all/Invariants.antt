use Rattle.std.proofs.Common.{◌≡◌, drop, map}
use Rattle.arm_value.specs.View.{json}
use Rattle.function_lists.specs.Members.{united_all}
use Rattle.function_lists.proofs.unions.united_all.Given as goal

abbrev pub invariant-loop-other : goal.invariant-loop-other
invariant-loop-other l = united_all l.all (map json (drop l.other-index l.others)) ≡ united_all l.first
    (map json l.others)
