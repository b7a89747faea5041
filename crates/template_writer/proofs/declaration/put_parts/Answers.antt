use Rattle.std.proofs.Common.{◌≡◌, List, IfOk, drop, ap, ◌∙◌, subst}
use Rattle.arm_value.specs.Json.{Member}
use Rattle.template_written.specs.Parts.{part_slots}
use Rattle.template_written.specs.Slots.{put_slots}
use Rattle.template_writer.proofs.declaration.put_parts.Goals as goal

pub returns : goal.returns
returns c =
    let ss = part_slots c.args.declaration.now in
    subst (λ (x : List Member). IfOk c.put_existing.result (λ ms. ms ≡ x))
    (ap (put_slots (drop 7 ss)) c.in_ok-fields-7.ensures ∙ ap (put_slots (drop 6 ss)) c.in_ok-fields-6.ensures
    ∙ ap (put_slots (drop 5 ss)) c.in_ok-fields-5.ensures ∙ ap (put_slots (drop 4 ss)) c.in_ok-fields-4.ensures
    ∙ ap (put_slots (drop 3 ss)) c.in_ok-fields-3.ensures ∙ ap (put_slots (drop 2 ss)) c.in_ok-fields-2.ensures
    ∙ ap (put_slots (drop 1 ss)) c.in_ok-fields.ensures)
    c.put_existing.ensures
