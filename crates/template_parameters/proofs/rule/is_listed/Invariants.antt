use Rattle.std.proofs.Common.{◌≡◌, drop, map}
use Rattle.arm_value.specs.View.{json}
use Rattle.template_parameters.specs.Rule.{is_listed}
use Rattle.template_parameters.proofs.rule.is_listed.Given as goal

abbrev pub invariant-loop-other : goal.invariant-loop-other
invariant-loop-other l =
    is_listed (map json l.other-items) (json l.value)
    ≡ is_listed (map json (drop l.other-index l.other-items)) (json l.value)
