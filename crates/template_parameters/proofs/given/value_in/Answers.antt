use Rattle.std.proofs.Common.{◌≢◌, ◌∙◌, sym, ap, arith, length, Some, None, if◌then◌else◌}
use Rattle.arm_value.specs.Json.{pairs}
use Rattle.arm_value.specs.View.{json}
use Rattle.template_parameters.specs.Given.{value_in}
use Rattle.template_parameters.proofs.GivenLemmas.{one_value, no_value}
use Rattle.template_parameters.proofs.given.value_in.Goals as goal

pub returns-then-is_value : goal.returns-then-is_value
returns-then-is_value c =
    sym (ap (λ ms. value_in (pairs ms)) (sym c.as_slice.ensures.members)
    ∙ one_value c.as_slice.result.now c.field-item.result (omega arith) (omega arith) c.field-item.is
    ∙ ap (λ b. if b then Some (json c.field-item.result.value) else None)
    (sym c.is_value.ensures ∙ c.if-is_value.true))

pub returns-else-is_value : goal.returns-else-is_value
returns-else-is_value c =
    sym (ap (λ ms. value_in (pairs ms)) (sym c.as_slice.ensures.members)
    ∙ one_value c.as_slice.result.now c.field-item.result (omega arith) (omega arith) c.field-item.is
    ∙ ap (λ b. if b then Some (json c.field-item.result.value) else None)
    (sym c.is_value.ensures ∙ c.if-is_value.false))

pub returns-in-len2-up : goal.returns-in-len2-up
returns-in-len2-up c =
    let other : length c.as_slice.result.now ≢ 1 = λ e. omega (arith, e, c.in-len2-up.len_at_least) in
    sym (ap (λ ms. value_in (pairs ms)) (sym c.as_slice.ensures.members) ∙ no_value c.as_slice.result.now other)
