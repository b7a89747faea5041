use Rattle.std.proofs.Common.{◌≡◌, ◌++◌, take, map}
use Rattle.arm_value.specs.View.{json}
use Rattle.template_meaning.specs.Parts.{looped_variable}
use Rattle.template_reading.proofs.variable.with_looped.Given as goal

abbrev pub invariant-loop-value : goal.invariant-loop-value
invariant-loop-value l =
    l.all ≡ l.fn.variables ++ map (λ v. looped_variable (json v)) (take l.value-index l.loops)
