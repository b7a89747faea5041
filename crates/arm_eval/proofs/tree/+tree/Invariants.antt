use Rattle.reading.specs.Knowledge.{finished}
use Rattle.std.proofs.Common.{◌≡◌, ◌+◌, ◌*◌, ◌∷◌, ℕ, take, map, option_map}
use Rattle.arm_value.specs.Json.{nesting, items_nesting, members_nesting}
use Rattle.arm_value.specs.View.{json, member}
use Rattle.arm_eval.specs.Trees.{looping_of}
use Rattle.arm_eval.specs.Words.{copying_of, values_of, owns_of, copies_of, put_all}
use Rattle.arm_env.specs.Answer.{gathered}
use Rattle.arm_env.specs.Sight.{here}
use Rattle.arm_eval.proofs.TurnLemmas.{turn_at}
use Rattle.arm_eval.proofs.RoundLemmas.{below}
use Rattle.arm_eval.proofs.tree.+tree.Given as goal

-- each call goes to a smaller tree, or to a later step for the same
abbrev pub decreases-tree_value : goal.decreases-tree_value
decreases-tree_value g l = 8 * nesting (json l.tree.now) + 2

abbrev pub decreases-outcome : goal.decreases-outcome
decreases-outcome g l = 8 * nesting (json l.tree.now) + 3

abbrev pub decreases-values : goal.decreases-values
decreases-values g l = 8 * items_nesting (map json l.trees.now) + 4

abbrev pub decreases-array_value : goal.decreases-array_value
decreases-array_value g l = 8 * items_nesting l.items.now + 5

abbrev pub decreases-own_member : goal.decreases-own_member
decreases-own_member g l = 8 * nesting (json l.field.now.value) + 4

abbrev pub decreases-own_members : goal.decreases-own_members
decreases-own_members g l = 8 * members_nesting (map member l.fields.now) + 5

abbrev pub decreases-given_members : goal.decreases-given_members
decreases-given_members g l = 8 * members_nesting (map member l.fields.now) + 3

abbrev pub decreases-copies : goal.decreases-copies
decreases-copies g l = 8 * nesting (json l.tree.now) + 2

abbrev pub decreases-each_copied : goal.decreases-each_copied
decreases-each_copied g l = 8 * items_nesting (map json l.trees.now) + 4

abbrev pub decreases-copied_outcome : goal.decreases-copied_outcome
decreases-copied_outcome g l = 8 * nesting (json l.tree.now) + 3

abbrev pub decreases-copied : goal.decreases-copied
decreases-copied g l = 8 * nesting (json l.tree.now) + 2

abbrev pub decreases-counting : goal.decreases-counting
decreases-counting g l = 8 * nesting (json l.tree.now) + 3

abbrev pub decreases-turns : goal.decreases-turns
decreases-turns g l = 8 * nesting (json l.copy.now.input.now) + 4

abbrev pub decreases-object_value : goal.decreases-object_value
decreases-object_value g l = 8 * members_nesting l.fields.now + 6

-- what is there so far, or nothing where one has no value
abbrev pub invariant-values-loop-tree : goal.invariant-values-loop-tree
invariant-values-loop-tree g l =
    gathered (λ vs. vs) (g.K.Entries.known l.entries) (values_of (here l.around) (take l.tree-index l.trees))
    ≡ finished l.values

abbrev pub invariant-own_members-loop-field : goal.invariant-own_members-loop-field
invariant-own_members-loop-field g l =
    gathered put_all (g.K.Entries.known l.entries) (owns_of (here l.around) (take l.field-index l.fields))
    ≡ finished l.own

abbrev pub invariant-each_copied-loop-tree : goal.invariant-each_copied-loop-tree
invariant-each_copied-loop-tree g l =
    gathered (λ ms. ms) (g.K.Entries.known l.entries) (copies_of (here l.around) (take l.tree-index l.trees))
    ≡ finished (option_map (λ v. map member v.items) l.given)

-- and the nearest loop is that of the copy
abbrev pub invariant-turns-loop-index : goal.invariant-turns-loop-index
invariant-turns-loop-index g l = record {
  nearest : (k : ℕ) × (l.loops.items ≡ looping_of l.copy.name.now k ∷ l.around.loops.now);
  values : gathered (λ vs. vs) (g.K.Entries.known l.entries)
      (map (turn_at (copying_of l.copy) (here l.around)) (take l.index (below l.count))) ≡ finished l.values;
}
