use Rattle.std.proofs.Common.{Some, None, ◌∙◌}
use Rattle.arm_value.specs.Json.{Json}
use Rattle.arm_value.specs.View.{json}
use Rattle.bicep_outcomes.proofs.OutcomeLemmas.{told-done}
use Rattle.bicep_eval_tests.specs.Sample.{known_of}
use Rattle.bicep_eval_tests.proofs.SampleLemmas.{slot_found, slot_told, no_slot, late_slot}
use Rattle.bicep_eval_tests.proofs.sample.variable_of.Goals as goal

pub returns-in-Known : goal.returns-in-Known
returns-in-Known c =
    λ j. slot_told j c.args.slots.now c.args.number c.in-Some.slot.now _
    (slot_found c.args.slots.now c.args.number c.in-Some.slot.now c.in-Some.ensures.lookup.0
    c.in-Some.ensures.lookup.1) c.in-Known.is
    ∙ told-done (known_of j) (Some (json c.in-Known.value))

pub returns-in-Absent : goal.returns-in-Absent
returns-in-Absent c =
    λ j. slot_told j c.args.slots.now c.args.number c.in-Some.slot.now _
    (slot_found c.args.slots.now c.args.number c.in-Some.slot.now c.in-Some.ensures.lookup.0
    c.in-Some.ensures.lookup.1) c.in-Absent.is
    ∙ told-done (known_of j) {A = Json} None

pub returns-in-Late : goal.returns-in-Late
returns-in-Late c =
    λ j. slot_told j c.args.slots.now c.args.number c.in-Some.slot.now _
    (slot_found c.args.slots.now c.args.number c.in-Some.slot.now c.in-Some.ensures.lookup.0
    c.in-Some.ensures.lookup.1) c.in-Late.is
    ∙ late_slot j c.args.number

pub returns-in-None : goal.returns-in-None
returns-in-None c = λ j. no_slot j c.args.slots.now c.args.number c.in-None.ensures.lookup.0
