use Rattle.std.proofs.Common.{◌≡◌, ◌++◌, drop, map, option_map}
use Rattle.arm_value.specs.View.{json}
use Rattle.expression_values.proofs.strict.texts_in.Given as goal
use Rattle.arm_functions.specs.Cuts.{texts_in}

abbrev pub invariant-loop-arg : goal.invariant-loop-arg
invariant-loop-arg l =
    option_map (λ ts. l.texts ++ ts) (texts_in (map json (drop l.arg-index l.args)))
    ≡ texts_in (map json l.args)
