use Rattle.std.proofs.Common.{ℕ, List, ap, ap₂, ◌∙◌}
use Rattle.arm_value.specs.Json.{pairs}
use Rattle.arm_value.specs.Look.{look_in}
use Rattle.template_faults.specs.Counts.{form_count}
use Rattle.template_faults.proofs.count.resource_count.Goals as goal
use Rattle.template_parts.proofs.WordLemmas.{chars_resources}

pub returns : goal.returns
returns c =
    c.form_count.ensures
    ∙ ap₂ form_count c.form_in.ensures
    (c.look.ensures ∙ ap (λ (w : List ℕ). look_in w (pairs c.args.template.now)) chars_resources)
