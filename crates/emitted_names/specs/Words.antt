-- Bicep files whose names are names of template expressions: of functions, of members after a `.`, of fields of states,
-- and of outputs (Microsoft Learn, "Template expressions").
use Rattle.std.specs.Prelude.{◌≡◌, ℕ, false, List, [], ◌∷◌, Some, codes, slice_get}
use Rattle.arm_expr.specs.Grammar.{IsName}
use Rattle.arm_expr.specs.Print.{HasNames}
use Rattle.bicep_resolved.specs.declared.leaf.Field.{Field}
use Rattle.bicep_resolved.specs.declared.leaf.Field.TheVariants as field
use Rattle.bicep_resolved.specs.Source.{SourceTree, SourceTrees, PieceTrees, PropertyTrees, ReachTree, ValueTree}
use Rattle.bicep_resolved.specs.Source as s
use Rattle.bicep_declared.specs.Declarations.{BodyTree}
use Rattle.bicep_declared.specs.Declarations as d
use Rattle.bicep_meaning.specs.Declared.{body_at}
use Rattle.bicep_meaning.specs.Files.{SourceFile, declaration, parent, below}
use Rattle.bicep_resolved.specs.Source.{field_named}
use Rattle.bicep_emission.specs.Emitted.{Frame}

abbrev pub HasFieldName : Field → Type 0
HasFieldName (field.Other x) = IsName x
HasFieldName x = Unit {0}

-- the names in an expression
abbrev mutual
  pub HasWords : SourceTree → Type 0
  HasWords (s.name at x) = Unit {0}
  HasWords (s.literal at v) = Unit {0}
  HasWords (s.interpolated at first ps) = HolesHaveWords ps
  HasWords (s.object at ps) = MembersHaveWords ps
  HasWords (s.array at es) = HaveWords es
  HasWords (s.call at name es) = IsName name × HaveWords es
  HasWords (s.instance r) = Unit {0}
  HasWords (s.field r at x) = ReachHasWords r × HasFieldName x
  HasWords (s.output r at k) = ReachHasWords r
  HasWords (s.member e k n) = HasWords e × IsName n.text
  HasWords (s.index e k i) = HasWords e × HasWords i
  HasWords (s.prefixed at p e) = HasWords e
  HasWords (s.binary o x y) = HasWords x × HasWords y
  HasWords (s.conditional c x y) = HasWords c × (HasWords x × HasWords y)

  pub HaveWords : SourceTrees → Type 0
  HaveWords s.none = Unit {0}
  HaveWords (s.more e es) = HasWords e × HaveWords es

  pub HolesHaveWords : PieceTrees → Type 0
  HolesHaveWords s.no_piece = Unit {0}
  HolesHaveWords (s.piece e after ps) = HasWords e × HolesHaveWords ps

  pub MembersHaveWords : PropertyTrees → Type 0
  MembersHaveWords s.no_property = Unit {0}
  MembersHaveWords (s.property at name v ps) = ValueHasWords v × MembersHaveWords ps

  -- a for-expression is no part of an expression
  pub ValueHasWords : ValueTree → Type 0
  ValueHasWords (s.plain e) = HasWords e
  ValueHasWords (s.each l e) = Unit {0}

  pub ReachHasWords : ReachTree → Type 0
  ReachHasWords (s.symbol at x) = Unit {0}
  ReachHasWords (s.element at x e) = HasWords e

-- the names of the outputs of the files of a program
abbrev pub OutputsAreNames : List SourceFile → Type 0
OutputsAreNames files = (i k : ℕ) (f : SourceFile) (x : List ℕ) → slice_get files i ≡ Some f
    → slice_get f.outputs k ≡ Some x → IsName x

-- the names in what a file declares, as far as expressions use it
pub record FileHasWords (f : SourceFile) : Type 0 where
  pub variables : (n at : ℕ) (v : ValueTree) → declaration f n ≡ Some (d.variable at v) → f.has_entry n ≡ false
      → ValueHasWords v
  pub names : (n : ℕ) (b : BodyTree) (v : ValueTree) → body_at f n ≡ Some b
      → field_named (codes "name") b.fields ≡ Some v → ValueHasWords v
  pub loops : (n at : ℕ) (b : BodyTree) (xs : SourceTree) → body_at f n ≡ Some b → b.each ≡ Some (s.loop at xs)
      → HasWords xs
  pub conditions : (n : ℕ) (b : BodyTree) (c : SourceTree) → body_at f n ≡ Some b → b.condition ≡ Some c
      → HasWords c
  pub parents : (n : ℕ) (r : ReachTree) → parent f n ≡ below r → ReachHasWords r

-- the item and the index of each run have names of the grammar
abbrev pub FramesHaveNames : List Frame → Type 0
FramesHaveNames [] = Unit {0}
FramesHaveNames (f ∷ fs) = (HasNames f.item × HasNames f.index) × FramesHaveNames fs
