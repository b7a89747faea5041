use Rattle.std.proofs.Common.{◌≡◌, List, IfOk, codes, Some, drop, ap, ◌∙◌, subst}
use Rattle.arm_value.specs.Json.{Member}
use Rattle.template_written.specs.Slots.{put_slot, put_slots, word}
use Rattle.template_written.specs.Written.{property_slots}
use Rattle.template_writer.proofs.header.property_members.Goals as goal

pub returns : goal.returns
returns c =
    let ss = property_slots c.args.deployment.now.scope c.args.deployment.now.parameters in
    subst (λ (x : List Member). IfOk c.put_all.result (λ ms. ms ≡ x))
    (ap (put_slots (drop 2 ss)) c.in_ok-fields-2.ensures
    ∙ ap (put_slots (drop 1 ss)) (c.in_ok-fields.ensures
    ∙ ap (λ ms. put_slot (codes "mode") (Some (word (codes "Incremental"))) ms) c.new.ensures))
    c.put_all.ensures
