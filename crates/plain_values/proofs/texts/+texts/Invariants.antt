use Rattle.std.proofs.Common.{◌≡◌, ◌+◌, ◌*◌, take, map}
use Rattle.arm_value.specs.Json.{nesting, items_nesting, members_nesting}
use Rattle.arm_value.specs.View.{json, member}
use Rattle.plain_values.specs.Plain.{changed, each_text, member_texts}
use Rattle.plain_values.proofs.texts.+texts.Given as goal

abbrev pub decreases-each_text : goal.decreases-each_text
decreases-each_text l = 2 * nesting (json l.value.now)

abbrev pub decreases-items_texts : goal.decreases-items_texts
decreases-items_texts l = 2 * items_nesting l.items.now + 1

abbrev pub decreases-fields_texts : goal.decreases-fields_texts
decreases-fields_texts l = 2 * members_nesting l.fields.now + 1

abbrev pub invariant-items_texts-loop-item : goal.invariant-items_texts-loop-item
invariant-items_texts-loop-item l =
    l.made ≡ map (λ x. each_text (changed l.change) (json x)) (take l.item-index l.item-items)

abbrev pub invariant-fields_texts-loop-field : goal.invariant-fields_texts-loop-field
invariant-fields_texts-loop-field l =
    l.made ≡ map (λ x. member_texts (changed l.change) (member x)) (take l.field-index l.field-items)
