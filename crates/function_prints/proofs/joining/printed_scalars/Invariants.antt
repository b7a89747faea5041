use Rattle.std.proofs.Common.{◌≡◌, ◌++◌, drop, map, option_map, string_bytes}
use Rattle.std.specs.Str.{chars}
use Rattle.arm_value.specs.View.{json}
use Rattle.function_prints.specs.Printed.{printed_scalars}
use Rattle.function_prints.proofs.joining.printed_scalars.Given as goal

-- what was put, and the printed forms of what is left
abbrev pub invariant-loop-value : goal.invariant-loop-value
invariant-loop-value l =
    option_map (λ rest. chars (string_bytes l.out) ++ rest) (printed_scalars (map json (drop l.value-index l.values)))
    ≡ printed_scalars (map json l.values)
