use Rattle.std.proofs.Common.{◌≡◌, ◌+◌, ◌*◌, ◌∷◌, ℕ, map, drop}
use Rattle.arm_value.specs.Json.{nesting, items_nesting, members_nesting, row, pairs}
use Rattle.arm_value.specs.View.{json, member}
use Rattle.reading.specs.Knowledge.{told}
use Rattle.arm_env.specs.Sight.{here}
use Rattle.arm_eval.specs.Trees.{looping_of}
use Rattle.arm_eval.specs.Words.{copying_of}
use Rattle.missing_values.specs.Missing.{missing_path, first_item, first_member, first_loop, first_loop_member}
use Rattle.missing_values.proofs.MissingLemmas.{Left}
use Rattle.missing_values.proofs.missing.+missing.Given as goal

-- each call goes to a smaller tree, or to a later step for the same
abbrev pub decreases-missing_path : goal.decreases-missing_path
decreases-missing_path g l = 8 * nesting (json l.tree.now) + 1

abbrev pub decreases-in_parts : goal.decreases-in_parts
decreases-in_parts g l = 8 * nesting (json l.tree.now)

abbrev pub decreases-first_item : goal.decreases-first_item
decreases-first_item g l = 8 * items_nesting (map json l.trees.now) + 2

abbrev pub decreases-in_member : goal.decreases-in_member
decreases-in_member g l = 8 * nesting (json l.field.now.value) + 4

abbrev pub decreases-first_member : goal.decreases-first_member
decreases-first_member g l = 8 * members_nesting (map member l.fields.now) + 5

abbrev pub decreases-in_copy : goal.decreases-in_copy
decreases-in_copy g l = 8 * nesting (json l.tree.now) + 2

abbrev pub decreases-first_loop : goal.decreases-first_loop
decreases-first_loop g l = 8 * items_nesting (map json l.trees.now) + 2

abbrev pub decreases-in_loop : goal.decreases-in_loop
decreases-in_loop g l = 8 * nesting (json l.tree.now) + 1

abbrev pub decreases-first_loop_member : goal.decreases-first_loop_member
decreases-first_loop_member g l = 8 * members_nesting (map member l.fields.now) + 5

abbrev pub decreases-in_loop_member : goal.decreases-in_loop_member
decreases-in_loop_member g l = 8 * nesting (json l.field.now.value) + 4

abbrev pub decreases-in_input : goal.decreases-in_input
decreases-in_input g l = 8 * nesting (json l.input.now) + 3

abbrev pub decreases-first_turn : goal.decreases-first_turn
decreases-first_turn g l = 8 * nesting (json l.input.now) + 2

-- what is found in the rest is what is found in all
abbrev pub invariant-first_item-loop-place : goal.invariant-first_item-loop-place
invariant-first_item-loop-place g l =
    told (g.K.Entries.known l.entries) (first_item (row (map json (drop l.place l.trees))) (here l.around) l.place)
    ≡ told (g.K.Entries.known l.entries) (first_item (row (map json l.trees)) (here l.around) 0)

abbrev pub invariant-first_member-loop-field : goal.invariant-first_member-loop-field
invariant-first_member-loop-field g l =
    told (g.K.Entries.known l.entries) (first_member (pairs (map member (drop l.field-index l.fields))) (here l.around))
    ≡ told (g.K.Entries.known l.entries) (first_member (pairs (map member l.fields)) (here l.around))

abbrev pub invariant-first_loop-loop-place : goal.invariant-first_loop-loop-place
invariant-first_loop-loop-place g l =
    told (g.K.Entries.known l.entries) (first_loop (row (map json (drop l.place l.trees))) (here l.around) l.place)
    ≡ told (g.K.Entries.known l.entries) (first_loop (row (map json l.trees)) (here l.around) 0)

abbrev pub invariant-first_loop_member-loop-field : goal.invariant-first_loop_member-loop-field
invariant-first_loop_member-loop-field g l =
    told (g.K.Entries.known l.entries)
    (first_loop_member (copying_of l.copy) (pairs (map member (drop l.field-index l.fields))) (here l.around))
    ≡ told (g.K.Entries.known l.entries)
    (first_loop_member (copying_of l.copy) (pairs (map member l.fields)) (here l.around))

-- and the nearest loop is that of the copy
abbrev pub invariant-first_turn-loop-index : goal.invariant-first_turn-loop-index
invariant-first_turn-loop-index g l = record {
  nearest : (k : ℕ) × (l.loops.items ≡ looping_of l.name k ∷ l.around.loops.now);
  turns : Left (g.K.Entries.known l.entries) (missing_path (json l.input)) l.name (here l.around) l.index l.count;
}
