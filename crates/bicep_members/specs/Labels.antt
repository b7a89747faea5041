-- Names that are given twice in one object or in one loop.
use Rattle.std.specs.Prelude.{ℕ, List, [], ◌∷◌, ◌++◌, Option, Some, None, if◌then◌else◌}
use Rattle.arm_value.specs.Look.{is_same_folded}
use Rattle.name_set.specs.Names.{is_listed, is_named}
use Rattle.bicep_tree.specs.declared.leaf.LoopNames.{LoopNames}
use Rattle.bicep_tree.specs.declared.leaf.LoopNames.TheVariants as ns
use Rattle.bicep_tree.specs.Offset.{label_offset}
use Rattle.bicep_tree.specs.Symbol.{label_text}
use Rattle.bicep_tree.specs.Tree.{MemberTrees}
use Rattle.bicep_tree.specs.Tree as tree

-- the offset of the first property whose name is among these or among those before it, letter by letter
abbrev pub repeated_from : List (List ℕ) → MemberTrees → Option ℕ
repeated_from before tree.no_member = None
repeated_from before (tree.and_member (tree.property l v) ms) =
    if is_listed before (label_text l) then Some (label_offset l) else repeated_from (before ++ label_text l ∷ []) ms
repeated_from before (tree.and_member (tree.child ds r) ms) = repeated_from before ms

-- the offset of the first property of an object whose name another before it has, letter by letter
abbrev pub repeated_label : MemberTrees → Option ℕ
repeated_label ms = repeated_from [] ms

-- the same after ASCII case folding
abbrev pub repeated_folded_from : List (List ℕ) → MemberTrees → Option ℕ
repeated_folded_from before tree.no_member = None
repeated_folded_from before (tree.and_member (tree.property l v) ms) =
    if is_named before (label_text l) then Some (label_offset l)
    else repeated_folded_from (before ++ label_text l ∷ []) ms
repeated_folded_from before (tree.and_member (tree.child ds r) ms) = repeated_folded_from before ms

abbrev pub repeated_folded : MemberTrees → Option ℕ
repeated_folded ms = repeated_folded_from [] ms

-- the index of a loop that has the name of its item, after ASCII case folding
abbrev pub repeated_index : LoopNames → Option ℕ
repeated_index (ns.Item x) = None
repeated_index (ns.Both x i) = if is_same_folded x.text i.text then Some i.at else None
