use Rattle.std.proofs.Common.{◌≡◌, drop, map, string_bytes}
use Rattle.std.specs.Str.{chars}
use Rattle.arm_value.specs.View.{json}
use Rattle.function_prints.specs.Format.{filled}
use Rattle.function_prints.specs.Filling.{filled_after}
use Rattle.function_prints.proofs.filling.filled.Given as goal

-- what is put out, and what is left with its fields filled
abbrev pub invariant-loop-i : goal.invariant-loop-i
invariant-loop-i l = filled_after (chars (string_bytes l.out)) (map json l.args) l.taken (drop l.i l.characters)
    ≡ filled (map json l.args) l.characters
