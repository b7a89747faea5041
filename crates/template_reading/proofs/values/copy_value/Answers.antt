use Rattle.std.proofs.Common.{◌≡◌, IfOk, option_map, sym, ap, subst}
use Rattle.arm_value.specs.View.{json}
use Rattle.arm_value.specs.declared.value.Value.{Value}
use Rattle.template_reading.proofs.CopyLemmas.{value_at}
use Rattle.template_reading.proofs.values.copy_value.Goals as goal

pub returns-in-Some : goal.returns-in-Some
returns-in-Some c =
    subst (λ (x : Value). IfOk c.copy.result (λ v. v ≡ x))
    (sym (value_at _ c.in-Some.value.now (ap (option_map (λ v. json v.now)) c.in-Some.is))) c.copy.ensures
