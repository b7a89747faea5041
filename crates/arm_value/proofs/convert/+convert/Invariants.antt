use Rattle.std.proofs.Common.{◌≡◌, ◌≤◌, ◌+◌, ◌*◌, None, map}
use Rattle.serde_json.specs.Data.{depth, items_depth, members_depth}
use Rattle.serde_json.specs.View.{view, items_view, members_view}
use Rattle.arm_value.specs.Reading.{data_of, members_not_whole}
use Rattle.arm_value.proofs.DataLemmas.{then_members}
use Rattle.arm_value.proofs.convert.+convert.Given as goal

abbrev pub invariant-convert_items-loop-item : goal.invariant-convert_items-loop-item
invariant-convert_items-loop-item l = map data_of l.found ≡ map view l.yielded

abbrev pub invariant-convert_members-loop-name : goal.invariant-convert_members-loop-name
invariant-convert_members-loop-name l = record {
  all : members_view l.fn.members.entries ≡ then_members l.found (members_view l.name-iterator);
  whole : members_not_whole (members_view l.name-iterator) ≡ None;
  nests : members_depth (members_view l.name-iterator) ≤ members_depth (members_view l.fn.members.entries);
}

abbrev pub decreases-convert : goal.decreases-convert
decreases-convert l = 2 * depth (view l.«data»)

abbrev pub decreases-convert_items : goal.decreases-convert_items
decreases-convert_items l = 2 * items_depth (items_view l.items.items) + 1

abbrev pub decreases-convert_members : goal.decreases-convert_members
decreases-convert_members l = 2 * members_depth (members_view l.members.entries) + 1
