use Rattle.std.proofs.Common.{◌≡◌, drop, map, option_map}
use Rattle.std.specs.List.{fold}
use Rattle.arm_value.specs.View.{json}
use Rattle.function_numbers.specs.Kinds.{numbers_in}
use Rattle.function_numbers.specs.Numbers.{better}
use Rattle.function_numbers.proofs.extremes.best_from.Given as goal

-- the best so far and of what is left is the best of all
abbrev pub invariant-loop-value : goal.invariant-loop-value
invariant-loop-value l =
    option_map (fold (better l.extreme) l.best) (numbers_in (map json (drop l.value-index l.rest)))
    ≡ option_map (fold (better l.extreme) l.first) (numbers_in (map json l.rest))
