use Rattle.std.proofs.Common.{ℕ, List, ap, ◌∙◌}
use Rattle.arm_value.specs.Json.{pairs}
use Rattle.arm_value.specs.Look.{look_in}
use Rattle.template_faults.specs.Properties.{scope_given}
use Rattle.template_faults.proofs.WordLemmas.{chars_expressionEvaluationOptions}
use Rattle.template_faults.proofs.properties.scope_of.Goals as goal

pub returns : goal.returns
returns c =
    c.scope_given.ensures
    ∙ ap scope_given
    (c.look.ensures
    ∙ ap (λ (w : List ℕ). look_in w (pairs c.args.properties.now)) chars_expressionEvaluationOptions)
