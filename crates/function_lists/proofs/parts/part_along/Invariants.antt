use Rattle.std.proofs.Common.{◌≡◌, drop, map, option_map}
use Rattle.arm_value.specs.View.{json}
use Rattle.function_lists.specs.Values.{or_null}
use Rattle.function_lists.specs.Members.{part_along}
use Rattle.function_lists.proofs.parts.part_along.Given as goal

abbrev pub invariant-loop-part : goal.invariant-loop-part
invariant-loop-part l =
    part_along (or_null (option_map (λ v. json v.now) l.here)) (map json (drop l.part-index l.path))
    ≡ part_along (json l.value) (map json l.path)
