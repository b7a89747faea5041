use Rattle.std.proofs.Common.{◌≡◌, drop}
use Rattle.serde_json.specs.View.{items_view, members_view}
use Rattle.arm_value.specs.Reading.{items_not_whole, members_not_whole}
use Rattle.arm_value.proofs.convert.+whole.Given as goal

abbrev pub invariant-find_in_items-loop-i : goal.invariant-find_in_items-loop-i
invariant-find_in_items-loop-i l =
    items_not_whole 0 (items_view l.item-items) ≡ items_not_whole l.i (items_view (drop l.i l.item-items))

abbrev pub invariant-find_in_members-loop-name : goal.invariant-find_in_members-loop-name
invariant-find_in_members-loop-name l =
    members_not_whole (members_view l.members.entries) ≡ members_not_whole (members_view l.name-iterator)
