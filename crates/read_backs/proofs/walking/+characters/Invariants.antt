use Rattle.std.proofs.Common.{◌+◌, ◌*◌}
use Rattle.arm_value.specs.Json.{nesting, items_nesting, members_nesting}
use Rattle.arm_value.specs.View.{json}
use Rattle.read_backs.proofs.WalkLemmas.{ValuesUpTo, FieldsUpTo}
use Rattle.read_backs.proofs.walking.+characters.Given as goal

abbrev pub decreases-know_characters : goal.decreases-know_characters
decreases-know_characters l = 2 * nesting (json l.value.now)

abbrev pub decreases-know_items : goal.decreases-know_items
decreases-know_items l = 2 * items_nesting l.items.now + 1

abbrev pub decreases-know_fields : goal.decreases-know_fields
decreases-know_fields l = 2 * members_nesting l.fields.now + 1

abbrev pub invariant-know_items-loop-item : goal.invariant-know_items-loop-item
invariant-know_items-loop-item l = ValuesUpTo l.item-index l.item-items

abbrev pub invariant-know_fields-loop-field : goal.invariant-know_fields-loop-field
invariant-know_fields-loop-field l = FieldsUpTo l.field-index l.field-items
