use Rattle.std.proofs.Common.{ℕ, List, ap, ◌∙◌}
use Rattle.arm_value.specs.Json.{pairs}
use Rattle.arm_value.specs.Look.{look_in}
use Rattle.template_parts.specs.declared.limit.Which.TheVariants as which
use Rattle.template_faults.specs.Counts.{beyond, variable_count}
use Rattle.template_faults.proofs.limit.variables_beyond.Goals as goal
use Rattle.template_parts.proofs.WordLemmas.{chars_variables}

pub returns : goal.returns
returns c =
    c.beyond.ensures
    ∙ ap (beyond which.Variables 512)
    (c.variable_count.ensures
    ∙ ap variable_count
    (c.look.ensures ∙ ap (λ (w : List ℕ). look_in w (pairs c.args.template.now)) chars_variables))
