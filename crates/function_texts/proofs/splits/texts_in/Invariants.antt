use Rattle.std.proofs.Common.{◌≡◌, ◌++◌, drop, map, option_map}
use Rattle.arm_value.specs.View.{json}
use Rattle.function_texts.specs.Cuts.{texts_in}
use Rattle.function_texts.proofs.splits.texts_in.Given as goal

-- the texts so far, and those of the values that are left
abbrev pub invariant-loop-value : goal.invariant-loop-value
invariant-loop-value l =
    option_map (λ rest. map (λ d. d.items) l.all.items ++ rest) (texts_in (map json (drop l.value-index l.values)))
    ≡ texts_in (map json l.values)
