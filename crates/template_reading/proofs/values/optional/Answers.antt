use Rattle.std.proofs.Common.{Some, option_map, sym, ap, ◌∙◌}
use Rattle.arm_value.specs.View.{json}
use Rattle.template_meaning.specs.Values.{optional}
use Rattle.template_meaning.proofs.ValueLemmas.{value_back}
use Rattle.template_reading.proofs.values.optional.Goals as goal

pub returns-in_ok-copy-in-Some : goal.returns-in_ok-copy-in-Some
returns-in_ok-copy-in-Some c =
    ap Some c.in_ok-copy-in-Some.ensures
    ∙ sym (ap optional (ap (option_map (λ v. json v.now)) c.in-Some.is) ∙ ap Some (value_back c.in-Some.value.now))
