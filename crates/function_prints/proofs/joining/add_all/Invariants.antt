use Rattle.std.proofs.Common.{◌≡◌, ◌++◌, drop, map, string_bytes}
use Rattle.std.specs.Str.{chars}
use Rattle.std.specs.List.{flat_map}
use Rattle.arm_value.specs.View.{json}
use Rattle.function_prints.specs.Printed.{printed}
use Rattle.function_prints.proofs.joining.add_all.Given as goal

-- what was put, and what is left
abbrev pub invariant-loop-value : goal.invariant-loop-value
invariant-loop-value l =
    chars (string_bytes l.out) ++ flat_map (λ j. l.between ++ printed j) (map json (drop l.value-index l.values))
    ≡ chars (string_bytes l.fn.out) ++ flat_map (λ j. l.between ++ printed j) (map json l.values)
