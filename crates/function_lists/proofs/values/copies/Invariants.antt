use Rattle.std.proofs.Common.{◌≡◌, ◌++◌, drop, map}
use Rattle.arm_value.specs.View.{json}
use Rattle.function_lists.proofs.values.copies.Given as goal

-- the copies and what is left
abbrev pub invariant-loop-value : goal.invariant-loop-value
invariant-loop-value l = map json l.copies.items ++ map json (drop l.value-index l.values) ≡ map json l.values
