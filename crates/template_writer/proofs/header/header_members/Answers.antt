use Rattle.std.proofs.Common.{◌≡◌, List, IfOk, codes, Some, drop, ap, ◌∙◌, subst}
use Rattle.arm_value.specs.Json.{Member, text}
use Rattle.template_tree.specs.View.{header_of}
use Rattle.template_written.specs.Slots.{put_slot, put_slots}
use Rattle.template_written.specs.Written.{text_slots, list_slots}
use Rattle.template_writer.proofs.header.header_members.Goals as goal

pub returns : goal.returns
returns c =
    let h = header_of c.args.template.now in
    let ts = text_slots h in
    subst (λ (x : List Member). IfOk c.put_lists.result (λ ms. ms ≡ x))
    (ap (put_slots (list_slots h)) (c.in_ok-fields-3.ensures ∙ ap (put_slots (drop 2 ts)) c.in_ok-fields-2.ensures
    ∙ ap (put_slots (drop 1 ts)) (c.in_ok-fields.ensures
    ∙ ap (λ ms. put_slot (codes "$schema") (Some (text h.schema)) ms) c.new.ensures)))
    c.put_lists.ensures
