use Rattle.std.proofs.Common.{◌≡◌, List, IfOk, codes, Some, drop, ap, ap₂, ◌∙◌, subst}
use Rattle.arm_value.specs.Json.{Member}
use Rattle.template_written.specs.Parts.{parameter_slots}
use Rattle.template_written.specs.Slots.{put_slot, put_slots, word}
use Rattle.template_writer.proofs.parts.parameter_members.Goals as goal

pub returns : goal.returns
returns c =
    let ss = parameter_slots c.args.parameter.now in
    subst (λ (x : List Member). IfOk c.put_optional-2.result (λ ms. ms ≡ x))
    (ap (put_slots (drop 7 ss)) c.in_ok-fields-4.ensures ∙ ap (put_slots (drop 3 ss)) c.in_ok-fields-3.ensures
    ∙ ap (put_slots (drop 2 ss)) c.in_ok-fields-2.ensures
    ∙ ap (put_slots (drop 1 ss)) (c.in_ok-fields.ensures
    ∙ ap₂ (λ w ms. put_slot (codes "type") (Some (word w)) ms) c.type_word.ensures c.new.ensures))
    c.put_optional-2.ensures
