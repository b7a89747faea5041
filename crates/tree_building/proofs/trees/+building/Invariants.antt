use Rattle.std.proofs.Common.{suc, ◌≡◌, ◌≤◌, ◌++◌, [], map, drop}
use Rattle.arm_value.specs.Json.{items as items_in}
use Rattle.bicep_resolved.specs.View.{source_of, property_of, value_of, sources, properties}
use Rattle.emitted_expressions.specs.Sight.{frames_of}
use Rattle.emitted_trees.specs.Written.{items_json}
use Rattle.tree_building.specs.Each.{ItemsAreSmall, MembersAreSmall}
use Rattle.tree_building.specs.Built.{members_of, all_grown}
use Rattle.tree_building.specs.Depth.{items_depth, members_depth}
use Rattle.tree_building.specs.Sight as spec
use Rattle.tree_building.proofs.SizeLemmas.{tree_size, items_size, members_size, value_size}
use Rattle.tree_building.proofs.trees.+building.Given as goal

-- what is built and what is left are the whole, and what is left is within the limits
abbrev pub invariant-all-loop-item : goal.invariant-all-loop-item
invariant-all-loop-item g l =
    let s = g.K.Texts.sight l.texts in
    let left = spec.items s (sources (map source_of (drop l.item-index l.items))) (frames_of l.turns) in
    (l.all ++ items_in (items_json left)
    ≡ items_in (items_json (spec.items s (sources (map source_of l.items)) (frames_of l.turns))))
    × (ItemsAreSmall left × (items_depth left ≤ 119))

abbrev pub invariant-members-loop-item : goal.invariant-members-loop-item
invariant-members-loop-item g l =
    let s = g.K.Texts.sight l.texts in
    let left = spec.members s (properties (map property_of (drop l.item-index l.items))) (frames_of l.turns) in
    (all_grown left (members_of l.parts)
    ≡ all_grown (spec.members s (properties (map property_of l.items)) (frames_of l.turns)) ([], []))
    × (MembersAreSmall left × (members_depth left ≤ 119))

abbrev pub decreases-tree : goal.decreases-tree
decreases-tree g l = tree_size (source_of l.e.now)

abbrev pub decreases-all : goal.decreases-all
decreases-all g l = items_size (sources (map source_of l.items.now))

abbrev pub decreases-written : goal.decreases-written
decreases-written g l = value_size (value_of l.value.now)

abbrev pub decreases-with_member : goal.decreases-with_member
decreases-with_member g l = suc (value_size (property_of l.property.now).2)

abbrev pub decreases-members : goal.decreases-members
decreases-members g l = members_size (properties (map property_of l.items.now))
