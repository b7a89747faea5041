-- Template expressions with holes for the item and the index of a loop.
use Rattle.std.specs.Prelude.{◌≡◌, ℕ, pos, List, [], ◌∷◌}
use Rattle.arm_expr.specs.Tree.{Tree, Trees, text, int, call, member, index, more}
use Rattle.arm_expr.specs.Tree as tree
use Rattle.declaration_laws.specs.Emitted.{Frame, Scope, one, no_value}

-- A hole is a call of the empty name, which no function has: without arguments for the item of a loop, with one for its
-- index.
abbrev pub item_hole : Tree
item_hole = call [] tree.none

abbrev pub index_hole : Tree
index_hole = call [] (one (int (pos 0)))

abbrev pub holes : Frame
holes = record { item = item_hole; index = index_hole }

-- what a hole with these arguments becomes
abbrev pub in_hole : Frame → Trees → Tree
in_hole f tree.none = f.item
in_hole f (more e es) = f.index

-- the expression with the item and the index of a run in its holes
abbrev mutual
  pub fill : Frame → Tree → Tree
  fill f (text t) = text t
  fill f (int z) = int z
  fill f (call [] es) = in_hole f es
  fill f (call (c ∷ cs) es) = call (c ∷ cs) (fill_all f es)
  fill f (member e name) = member (fill f e) name
  fill f (index e i) = index (fill f e) (fill f i)

  pub fill_all : Frame → Trees → Trees
  fill_all f tree.none = tree.none
  fill_all f (more e es) = more (fill f e) (fill_all f es)

-- ---- the loop around a declaration

-- no loop, or one
abbrev pub IsRun : List Frame → Type 0
IsRun [] = Unit {0}
IsRun (f ∷ []) = Unit {0}
IsRun (f ∷ g ∷ fs) = ⊥

-- the run of the nearest loop, or one without values
abbrev pub nearest : List Frame → Frame
nearest [] = record { item = no_value; index = no_value }
nearest (f ∷ fs) = f

-- names and ids made of those with holes
abbrev pub refilled : Scope → Scope
refilled sc = record {
  variable = sc.variable;
  items = sc.items;
  name = λ n fs. fill (nearest fs) (sc.name n (holes ∷ []));
  id = λ n fs. fill (nearest fs) (sc.id n (holes ∷ []));
}

-- what the declaration of that number becomes has no holes, but for those of the loop around it
pub record HasHoles (sc : Scope) (n : ℕ) : Type 0 where
  pub variable : (f : Frame) → fill f (sc.variable n) ≡ sc.variable n
  pub items : (f : Frame) → fill f (sc.items n) ≡ sc.items n
  pub name : (fs : List Frame) → IsRun fs → fill (nearest fs) (sc.name n (holes ∷ [])) ≡ sc.name n fs
  pub id : (fs : List Frame) → IsRun fs → fill (nearest fs) (sc.id n (holes ∷ [])) ≡ sc.id n fs
