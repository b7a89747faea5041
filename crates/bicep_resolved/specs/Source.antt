-- Expressions whose names are found, as trees.
use Rattle.std.specs.Prelude.{ℕ, List, Option, Some, None, bytes_eq, if◌then◌else◌}
use Rattle.bicep_tree.specs.declared.leaf.Indexing.{Indexing}
use Rattle.bicep_tree.specs.declared.leaf.Literal.{Literal}
use Rattle.bicep_tree.specs.declared.leaf.Name.{Name}
use Rattle.bicep_tree.specs.declared.leaf.Operator.{Operator}
use Rattle.bicep_tree.specs.declared.leaf.Prefix.{Prefix}
use Rattle.bicep_resolved.specs.declared.leaf.Field.{Field}
use Rattle.bicep_resolved.specs.declared.leaf.Meaning.{Meaning}
use Rattle.bicep_resolved.specs.declared.leaf.Selector.{Selector}
use Rattle.bicep_resolved.specs.declared.leaf.Target.{Target}

mutual
  -- an expression; a number is the offset of its first token
  pub data SourceTree : Type 0 where
    name : ℕ → Meaning → SourceTree
    literal : ℕ → Literal → SourceTree
    -- the characters before the first hole, and the holes
    interpolated : ℕ → List ℕ → PieceTrees → SourceTree
    object : ℕ → PropertyTrees → SourceTree
    array : ℕ → SourceTrees → SourceTree
    -- a function by its name in small letters
    call : ℕ → List ℕ → SourceTrees → SourceTree
    instance : ReachTree → SourceTree
    -- a field of a resource or a module, and the offset of its name
    field : ReachTree → ℕ → Field → SourceTree
    -- an output of a module by its number, and the offset of its name
    output : ReachTree → ℕ → ℕ → SourceTree
    member : SourceTree → Selector → Name → SourceTree
    index : SourceTree → Indexing → SourceTree → SourceTree
    prefixed : ℕ → Prefix → SourceTree → SourceTree
    binary : Operator → SourceTree → SourceTree → SourceTree
    conditional : SourceTree → SourceTree → SourceTree → SourceTree

  pub data SourceTrees : Type 0 where
    none : SourceTrees
    more : SourceTree → SourceTrees → SourceTrees

  pub data PieceTrees : Type 0 where
    no_piece : PieceTrees
    -- a value, the characters after it, and the holes after these
    piece : SourceTree → List ℕ → PieceTrees → PieceTrees

  -- a resource or a module
  pub data ReachTree : Type 0 where
    symbol : ℕ → Target → ReachTree
    -- an element of its loop
    element : ℕ → Target → SourceTree → ReachTree

  pub data PropertyTrees : Type 0 where
    no_property : PropertyTrees
    -- the offset of its name, its name, its value, and the properties after it
    property : ℕ → List ℕ → ValueTree → PropertyTrees → PropertyTrees

  pub data ValueTree : Type 0 where
    plain : SourceTree → ValueTree
    -- once for each item
    each : LoopTree → SourceTree → ValueTree

  pub data LoopTree : Type 0 where
    -- what it runs over
    loop : ℕ → SourceTree → LoopTree

abbrev pub field_named : List ℕ → PropertyTrees → Option ValueTree
field_named x no_property = None
field_named x (property at y v ps) = if bytes_eq y x then Some v else field_named x ps
