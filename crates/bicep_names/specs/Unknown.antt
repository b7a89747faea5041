-- Names that mean nothing.
use Rattle.std.specs.Prelude.{◌≡◌, ℕ, List, ◌∷◌, None, ◌⊎◌}
use Rattle.bicep_tree.specs.declared.leaf.Access.{Access}
use Rattle.bicep_tree.specs.declared.leaf.Access.TheVariants as access
use Rattle.bicep_tree.specs.declared.leaf.LoopNames.{LoopNames}
use Rattle.bicep_tree.specs.Tree.{Tree, Trees, Holes, ObjectTree, MemberTrees, ValueTree}
use Rattle.bicep_tree.specs.Tree as tree
use Rattle.bicep_resolved.specs.declared.leaf.Field.TheVariants as f
use Rattle.bicep_resolved.specs.Source.{SourceTree}
use Rattle.bicep_resolved.specs.Source as s
use Rattle.bicep_resolved.specs.Target.{number_of, target_of}
use Rattle.bicep_found.specs.Found.{Found, found, unknown}
use Rattle.bicep_names.specs.Functions.{function_named}
use Rattle.bicep_names.specs.Scope.{Scope, meaning_of, nested_named}
use Rattle.bicep_names.specs.Resolve.{resolved, output_of, function_name}

-- a part of that name, after `.`, `.?` or `::`, that what an expression stands for does not have: an output of a
-- module, or a nested resource
abbrev pub Lacks : Scope → SourceTree → Access → List ℕ → Type 0
Lacks sc (s.field r at f.Outputs) access.Member name = output_of sc.outputs (target_of r) name ≡ None
Lacks sc e access.Member name = ⊥
Lacks sc e access.SafeMember name = ⊥
Lacks sc (s.instance r) access.Nested name = nested_named sc.symbols (number_of (target_of r)) name ≡ None
Lacks sc e access.Nested name = Unit {0}

-- what the expression stands for lacks the part
abbrev pub FoundLacks : Scope → Found SourceTree → Access → List ℕ → Type 0
FoundLacks sc (found x) k name = Lacks sc x k name
FoundLacks sc (unknown at) k name = ⊥

abbrev mutual
  -- a name in the expression, at that offset, means nothing where it is
  pub HasUnknown : Scope → ℕ → Tree → List LoopNames → Type 0
  HasUnknown sc at (tree.name n) ls = (n.at ≡ at) × (meaning_of sc.symbols ls n.text ≡ None)
  HasUnknown sc at (tree.literal b v) ls = ⊥
  HasUnknown sc at (tree.interpolated b first hs) ls = HoleHasUnknown sc at hs ls
  HasUnknown sc at (tree.object o) ls = ObjectHasUnknown sc at o ls
  HasUnknown sc at (tree.array b es) ls = OneHasUnknown sc at es ls
  HasUnknown sc at (tree.parentheses b e) ls = HasUnknown sc at e ls
  HasUnknown sc at (tree.call g es) ls =
      (((function_name g).at ≡ at) × (function_named (function_name g).text ≡ None)) ⊎ OneHasUnknown sc at es ls
  HasUnknown sc at (tree.access e k n) ls =
      HasUnknown sc at e ls ⊎ ((n.at ≡ at) × FoundLacks sc (resolved sc e ls) k n.text)
  HasUnknown sc at (tree.index e k i) ls = HasUnknown sc at e ls ⊎ HasUnknown sc at i ls
  HasUnknown sc at (tree.not_null e) ls = HasUnknown sc at e ls
  HasUnknown sc at (tree.prefixed b p e) ls = HasUnknown sc at e ls
  HasUnknown sc at (tree.binary o x y) ls = HasUnknown sc at x ls ⊎ HasUnknown sc at y ls
  HasUnknown sc at (tree.conditional c x y) ls =
      HasUnknown sc at c ls ⊎ (HasUnknown sc at x ls ⊎ HasUnknown sc at y ls)

  pub OneHasUnknown : Scope → ℕ → Trees → List LoopNames → Type 0
  OneHasUnknown sc at tree.none ls = ⊥
  OneHasUnknown sc at (tree.more e es) ls = HasUnknown sc at e ls ⊎ OneHasUnknown sc at es ls

  pub HoleHasUnknown : Scope → ℕ → Holes → List LoopNames → Type 0
  HoleHasUnknown sc at tree.no_hole ls = ⊥
  HoleHasUnknown sc at (tree.hole e after hs) ls = HasUnknown sc at e ls ⊎ HoleHasUnknown sc at hs ls

  pub ObjectHasUnknown : Scope → ℕ → ObjectTree → List LoopNames → Type 0
  ObjectHasUnknown sc at (tree.braces b ms) ls = MemberHasUnknown sc at ms ls

  pub MemberHasUnknown : Scope → ℕ → MemberTrees → List LoopNames → Type 0
  MemberHasUnknown sc at tree.no_member ls = ⊥
  MemberHasUnknown sc at (tree.and_member (tree.property l v) ms) ls =
      ValueHasUnknown sc at v ls ⊎ MemberHasUnknown sc at ms ls
  MemberHasUnknown sc at (tree.and_member (tree.child ds r) ms) ls = MemberHasUnknown sc at ms ls

  pub ValueHasUnknown : Scope → ℕ → ValueTree → List LoopNames → Type 0
  ValueHasUnknown sc at (tree.plain e) ls = HasUnknown sc at e ls
  ValueHasUnknown sc at (tree.each (tree.loop b names xs) e) ls =
      HasUnknown sc at xs ls ⊎ HasUnknown sc at e (names ∷ ls)

-- what is found has no such name, and what is not found has one at that offset
abbrev pub Tells : {A : Type 0} → (ℕ → Type 0) → Found A → Type 0
Tells P (found x) = (at : ℕ) → ¬ P at
Tells P (unknown at) = P at
