-- Files as trees.
use Rattle.std.specs.Prelude.{ℕ, Bool, List, [], ◌∷◌}
use Rattle.bicep_tree.specs.declared.leaf.Name.{Name}
use Rattle.bicep_tree.specs.declared.leaf.Quoted.{Quoted}
use Rattle.bicep_tree.specs.declared.leaf.Label.{Label}
use Rattle.bicep_tree.specs.declared.leaf.Literal.{Literal}
use Rattle.bicep_tree.specs.declared.leaf.LoopNames.{LoopNames}
use Rattle.bicep_tree.specs.declared.leaf.Function.{Function}
use Rattle.bicep_tree.specs.declared.leaf.Access.{Access}
use Rattle.bicep_tree.specs.declared.leaf.Indexing.{Indexing}
use Rattle.bicep_tree.specs.declared.leaf.Prefix.{Prefix}
use Rattle.bicep_tree.specs.declared.leaf.Operator.{Operator}
use Rattle.bicep_tree.specs.declared.leaf.TypeName.{TypeName}

mutual
  -- an expression; a number is the offset of its first token
  pub data Tree : Type 0 where
    name : Name → Tree
    literal : ℕ → Literal → Tree
    -- the characters before the first hole, and the holes
    interpolated : ℕ → List ℕ → Holes → Tree
    object : ObjectTree → Tree
    array : ℕ → Trees → Tree
    parentheses : ℕ → Tree → Tree
    call : Function → Trees → Tree
    access : Tree → Access → Name → Tree
    index : Tree → Indexing → Tree → Tree
    not_null : Tree → Tree
    prefixed : ℕ → Prefix → Tree → Tree
    binary : Operator → Tree → Tree → Tree
    conditional : Tree → Tree → Tree → Tree

  pub data Trees : Type 0 where
    none : Trees
    more : Tree → Trees → Trees

  pub data Holes : Type 0 where
    no_hole : Holes
    -- a value, the characters after it, and the holes after these
    hole : Tree → List ℕ → Holes → Holes

  pub data ObjectTree : Type 0 where
    braces : ℕ → MemberTrees → ObjectTree

  pub data MemberTree : Type 0 where
    property : Label → ValueTree → MemberTree
    -- a nested resource
    child : DecoratorTrees → ResourceTree → MemberTree

  pub data MemberTrees : Type 0 where
    no_member : MemberTrees
    and_member : MemberTree → MemberTrees → MemberTrees

  pub data ValueTree : Type 0 where
    plain : Tree → ValueTree
    -- once for each item
    each : LoopTree → Tree → ValueTree

  pub data LoopTree : Type 0 where
    -- the names, and what they run over
    loop : ℕ → LoopNames → Tree → LoopTree

  pub data DecoratorTree : Type 0 where
    decorator : ℕ → Function → Trees → DecoratorTree

  pub data DecoratorTrees : Type 0 where
    no_decorator : DecoratorTrees
    and_decorator : DecoratorTree → DecoratorTrees → DecoratorTrees

  pub data ResourceTree : Type 0 where
    -- its name, its type text, and whether it is an existing one
    resource : ℕ → Name → Quoted → Bool → BodyTree → ResourceTree

  pub data BodyTree : Type 0 where
    body_plain : ObjectTree → BodyTree
    -- under a condition
    body_if : ℕ → Tree → ObjectTree → BodyTree
    body_each : LoopTree → ObjectTree → BodyTree
    body_each_if : LoopTree → ℕ → Tree → ObjectTree → BodyTree

pub data DeclarationTree : Type 0 where
  metadata : ℕ → Name → Tree → DeclarationTree
  target_scope : ℕ → Tree → DeclarationTree
  param : ℕ → Name → TypeName → DeclarationTree
  -- with a default
  param_with : ℕ → Name → TypeName → Tree → DeclarationTree
  var : ℕ → Name → ValueTree → DeclarationTree
  output : ℕ → Name → TypeName → ValueTree → DeclarationTree
  a_resource : ResourceTree → DeclarationTree
  a_module : ℕ → Name → Quoted → BodyTree → DeclarationTree

-- a declaration after its decorators
pub data StatementTree : Type 0 where
  statement : DecoratorTrees → DeclarationTree → StatementTree

-- the statements in order
abbrev pub FileTree : Type 0
FileTree = List StatementTree

-- lists as trees have them
abbrev pub trees : List Tree → Trees
trees [] = none
trees (e ∷ es) = more e (trees es)

abbrev pub holes : List (Tree × List ℕ) → Holes
holes [] = no_hole
holes (h ∷ hs) = hole h.0 h.1 (holes hs)

abbrev pub members : List MemberTree → MemberTrees
members [] = no_member
members (m ∷ ms) = and_member m (members ms)

abbrev pub decorators : List DecoratorTree → DecoratorTrees
decorators [] = no_decorator
decorators (d ∷ ds) = and_decorator d (decorators ds)
