use Rattle.std.proofs.Common.{ℕ, List, ap, ◌∙◌}
use Rattle.arm_value.specs.Look.{is_same_folded}
use Rattle.template_faults.proofs.WordLemmas.{chars_expressionEvaluationOptions}
use Rattle.template_faults.proofs.names.is_options.Goals as goal

pub returns : goal.returns
returns c =
    c.equals_ignore_case.ensures ∙ ap
    (λ (w : List ℕ). is_same_folded w c.args.name.now) chars_expressionEvaluationOptions
