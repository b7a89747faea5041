use Rattle.std.proofs.Common.{ℕ, List, ap, ◌∙◌}
use Rattle.arm_value.specs.Json.{pairs}
use Rattle.arm_value.specs.Look.{look_in}
use Rattle.template_faults.specs.Header.{form_of}
use Rattle.template_faults.proofs.WordLemmas.{chars_languageVersion}
use Rattle.template_faults.proofs.header.form_in.Goals as goal

pub returns : goal.returns
returns c =
    c.form_of.ensures
    ∙ ap form_of
    (c.look.ensures ∙ ap (λ (w : List ℕ). look_in w (pairs c.args.fields.now)) chars_languageVersion)
