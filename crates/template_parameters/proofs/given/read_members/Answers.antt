use Rattle.std.proofs.Common.{ap, option_map, ◌∙◌, sym}
use Rattle.arm_value.specs.Json.{pairs}
use Rattle.arm_value.specs.View.{json}
use Rattle.template_parameters.specs.Given.{given_in, given_view}
use Rattle.template_parameters.proofs.GivenLemmas.{given_step}
use Rattle.template_parameters.proofs.given.read_members.Goals as goal

pub returns-in-Err : goal.returns-in-Err
returns-in-Err c = c.stopped.ensures _

pub loop-field-preserved : goal.loop-field-preserved
loop-field-preserved c =
    given_step _ _ _ _ _ c.as_slice-field-items.result.now c.loop-field.field-index c.field-item.result _
    (json c.in-Ok-Some.value.now) c.loop-field.invariant c.loop-field-test.true c.field-item.is c.in-Ok-Some.ensures
    (ap (option_map (λ v. json v.now)) c.in-Ok-Some.field-0-is) c.in-Ok.ensures.names c.in-Ok.ensures.found
