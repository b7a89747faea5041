use Rattle.std.proofs.Common.{Some, map, option_map, sym, ap, ◌∙◌}
use Rattle.arm_value.specs.View.{json}
use Rattle.plain_values.specs.Plain.{meant}
use Rattle.template_meaning.specs.Parts.{allowed_in}
use Rattle.template_reading.proofs.parameter.allowed_in.Goals as goal
use Rattle.arm_value.proofs.SameLemmas.{items-row}

pub returns-in_ok-meant_items-in-Array : goal.returns-in_ok-meant_items-in-Array
returns-in_ok-meant_items-in-Array c =
    ap Some c.in_ok-meant_items-in-Array.ensures
    ∙ sym (ap allowed_in (ap (option_map (λ v. json v.now)) c.in-Some.is ∙ ap (λ v. Some (json v)) c.in-Array.is)
    ∙ ap (λ js. Some (map meant js)) (items-row c.in-Array.items))
