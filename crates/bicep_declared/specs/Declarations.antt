-- Declarations whose names are found, as trees.
use Rattle.std.specs.Prelude.{ℕ, Bool, List, Option}
use Rattle.bicep_tree.specs.declared.leaf.Quoted.{Quoted}
use Rattle.bicep_tree.specs.declared.leaf.TypeName.{TypeName}
use Rattle.bicep_resolved.specs.Source.{SourceTree, PropertyTrees, ValueTree, LoopTree}

-- the body of a resource or a module
pub record BodyTree : Type 0 where
  -- what it runs over, where it is a loop
  pub each : Option LoopTree
  -- its condition, where it has one
  pub condition : Option SourceTree
  -- the offset of its `{`
  pub at : ℕ
  -- its fields in source order
  pub fields : PropertyTrees

-- a declaration that has a symbol; a number is the offset of its name
pub data DeclaredTree : Type 0 where
  parameter : ℕ → TypeName → DeclaredTree
  -- with a default
  parameter_with : ℕ → TypeName → SourceTree → DeclaredTree
  variable : ℕ → ValueTree → DeclaredTree
  -- its type text, and whether it is an existing one
  a_resource : ℕ → Quoted → Bool → BodyTree → DeclaredTree
  a_module : ℕ → BodyTree → DeclaredTree

-- an output: the offset of its name, its type and its value
pub record OutputTree : Type 0 where
  pub at : ℕ
  pub kind : TypeName
  pub value : ValueTree

-- a file: its declarations by the numbers of their symbols, and its outputs in source order
pub record DeclaredFileTree : Type 0 where
  pub declarations : List DeclaredTree
  pub outputs : List OutputTree
