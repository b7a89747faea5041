-- Bicep files whose numbers are of 64 bits, as far as they are in expressions (Microsoft Learn, "Data types in Bicep").
use Rattle.std.specs.Prelude.{◌≡◌, ◌<◌, ◌^◌, ℕ, List, [], ◌∷◌, Option, Some, None, codes}
use Rattle.std.specs.List.{AllByRecursion}
use Rattle.arm_expr.specs.Print.{HasInts, IsWhole}
use Rattle.bicep_tree.specs.declared.leaf.Literal.{Literal}
use Rattle.bicep_tree.specs.declared.leaf.Literal.TheVariants as l
use Rattle.bicep_resolved.specs.Source.{SourceTree, SourceTrees, PieceTrees, PropertyTrees, ReachTree, ValueTree}
use Rattle.bicep_resolved.specs.Source.{LoopTree, field_named}
use Rattle.bicep_resolved.specs.Source as s
use Rattle.bicep_declared.specs.Declarations.{BodyTree, DeclaredTree, DeclaredFileTree}
use Rattle.bicep_declared.specs.Declarations as d
use Rattle.bicep_meaning.specs.Declared.{body_at}
use Rattle.bicep_meaning.specs.Files.{SourceFile, declaration, parent, no_parent, below, type_of}
use Rattle.bicep_emission.specs.Emitted.{Frame}
use Rattle.emitted_declarations.specs.Declared.{number_of_parts}

abbrev pub IsWholeLiteral : Literal → Type 0
IsWholeLiteral (l.Number z) = IsWhole z
IsWholeLiteral x = Unit {0}

-- the numbers in an expression
abbrev mutual
  pub HasWholes : SourceTree → Type 0
  HasWholes (s.name at x) = Unit {0}
  HasWholes (s.literal at v) = IsWholeLiteral v
  HasWholes (s.interpolated at first ps) = HolesHaveWholes ps
  HasWholes (s.object at ps) = MembersHaveWholes ps
  HasWholes (s.array at es) = HaveWholes es
  HasWholes (s.call at name es) = HaveWholes es
  HasWholes (s.instance r) = Unit {0}
  HasWholes (s.field r at x) = ReachHasWholes r
  HasWholes (s.output r at k) = ReachHasWholes r
  HasWholes (s.member e k n) = HasWholes e
  HasWholes (s.index e k i) = HasWholes e × HasWholes i
  HasWholes (s.prefixed at p e) = HasWholes e
  HasWholes (s.binary o x y) = HasWholes x × HasWholes y
  HasWholes (s.conditional c x y) = HasWholes c × (HasWholes x × HasWholes y)

  pub HaveWholes : SourceTrees → Type 0
  HaveWholes s.none = Unit {0}
  HaveWholes (s.more e es) = HasWholes e × HaveWholes es

  pub HolesHaveWholes : PieceTrees → Type 0
  HolesHaveWholes s.no_piece = Unit {0}
  HolesHaveWholes (s.piece e after ps) = HasWholes e × HolesHaveWholes ps

  pub MembersHaveWholes : PropertyTrees → Type 0
  MembersHaveWholes s.no_property = Unit {0}
  MembersHaveWholes (s.property at name v ps) = ValueHasWholes v × MembersHaveWholes ps

  -- a for-expression too
  pub ValueHasWholes : ValueTree → Type 0
  ValueHasWholes (s.plain e) = HasWholes e
  ValueHasWholes (s.each (s.loop at xs) e) = HasWholes xs × HasWholes e

  pub ReachHasWholes : ReachTree → Type 0
  ReachHasWholes (s.symbol at x) = Unit {0}
  ReachHasWholes (s.element at x e) = HasWholes e

-- the numbers in what a file declares
pub record FileHasWholes (f : SourceFile) : Type 0 where
  pub variables : (n at : ℕ) (v : ValueTree) → declaration f n ≡ Some (d.variable at v) → ValueHasWholes v
  pub names : (n : ℕ) (b : BodyTree) (v : ValueTree) → body_at f n ≡ Some b
      → field_named (codes "name") b.fields ≡ Some v → ValueHasWholes v
  pub loops : (n at : ℕ) (b : BodyTree) (xs : SourceTree) → body_at f n ≡ Some b → b.each ≡ Some (s.loop at xs)
      → HasWholes xs
  pub conditions : (n : ℕ) (b : BodyTree) (c : SourceTree) → body_at f n ≡ Some b → b.condition ≡ Some c
      → HasWholes c
  pub parents : (n : ℕ) (r : ReachTree) → parent f n ≡ below r → ReachHasWholes r

-- ---- all values of a file

-- what a resource or a module runs over, and its condition
abbrev pub LoopHasWholes : Option LoopTree → Type 0
LoopHasWholes None = Unit {0}
LoopHasWholes (Some (s.loop at xs)) = HasWholes xs

abbrev pub ConditionHasWholes : Option SourceTree → Type 0
ConditionHasWholes None = Unit {0}
ConditionHasWholes (Some c) = HasWholes c

abbrev pub BodyHasWholes : BodyTree → Type 0
BodyHasWholes b = LoopHasWholes b.each × (ConditionHasWholes b.condition × MembersHaveWholes b.fields)

abbrev pub DeclaredHasWholes : DeclaredTree → Type 0
DeclaredHasWholes (d.parameter at t) = Unit {0}
DeclaredHasWholes (d.parameter_with at t e) = HasWholes e
DeclaredHasWholes (d.variable at v) = ValueHasWholes v
DeclaredHasWholes (d.a_resource at q existing b) = BodyHasWholes b
DeclaredHasWholes (d.a_module at b) = BodyHasWholes b

pub record FileHasAllWholes (f : DeclaredFileTree) : Type 0 where
  pub declarations : AllByRecursion DeclaredHasWholes f.declarations
  pub outputs : AllByRecursion (λ o. ValueHasWholes o.value) f.outputs

-- ---- parts of names

-- The name of no resource has 2^63 parts. Of a child the parts are those of its parent and its own.
abbrev pub HasFewParts : SourceFile → Type 0
HasFewParts f = (n : ℕ) → parent f n ≡ no_parent → number_of_parts (type_of f n).kind < 2 ^ 63

-- the item and the index of each run have numbers of 64 bits
abbrev pub FramesHaveInts : List Frame → Type 0
FramesHaveInts [] = Unit {0}
FramesHaveInts (f ∷ fs) = (HasInts f.item × HasInts f.index) × FramesHaveInts fs
