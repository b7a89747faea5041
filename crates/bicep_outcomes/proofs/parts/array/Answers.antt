use Rattle.std.proofs.Common.{Option, sym, subst, ◌∙◌}
use Rattle.std.specs.Prelude.{Result}
use Rattle.std.specs.declared.vec.Vec.{Vec}
use Rattle.std.specs.declared.alloc.Global.{Global}
use Rattle.arm_value.specs.Json.{Json}
use Rattle.arm_value.specs.View.{json}
use Rattle.arm_value.specs.declared.value.Value.{Value}
use Rattle.function_lists.proofs.ValueLemmas.{is_array_of}
use Rattle.bicep_outcomes.specs.declared.stop.Stop.{Stop}
use Rattle.bicep_outcomes.specs.Outcomes.{IsFound, ThenItems}
use Rattle.bicep_outcomes.proofs.parts.array.Goals as goal

pub returns-in-Ok : goal.returns-in-Ok
returns-in-Ok c =
    subst (λ (r : Result (Vec Value Global) Stop). ThenItems r c.found.result) (sym c.in-Ok.is)
    (λ h. subst (λ (o : Option Json). IsFound json o c.found.result)
    (c.array_of.ensures ∙ sym (is_array_of _ h)) c.found.ensures)
