-- What is misplaced in an expression: members whose names a template would read otherwise, for-expressions, and
-- resources.
use Rattle.std.specs.Prelude.{ℕ, Option, Some, None, if◌then◌else◌}
use Rattle.bicep_tree.specs.declared.leaf.Label.{Label}
use Rattle.bicep_tree.specs.Offset.{label_offset, resource_offset}
use Rattle.bicep_tree.specs.Symbol.{label_text}
use Rattle.bicep_tree.specs.Tree.{Tree, Trees, Holes, ObjectTree, MemberTree, MemberTrees, ValueTree}
use Rattle.bicep_tree.specs.Tree as tree
use Rattle.bicep_misplaced.specs.declared.spot.Spot.{Spot}
use Rattle.bicep_misplaced.specs.declared.spot.Spot.TheVariants as spot
use Rattle.bicep_misplaced.specs.Words.{is_bad_name}
use Rattle.foundation.specs.Options.{or_else}

-- where the parts of an operator, a call, an access or an interpolated text are
abbrev pub inner : Spot → Spot
inner spot.Outside = spot.Outside
inner spot.Field = spot.Inside
inner spot.Inside = spot.Inside

abbrev pub bad_label : Spot → Label → Option ℕ
bad_label sp l = if is_bad_name sp (label_text l) then Some (label_offset l) else None

-- a for-expression as the value of a property: only in the value of a field, where its parts are looked at
abbrev pub each_at : Spot → ℕ → Option ℕ → Option ℕ
each_at spot.Outside at parts = Some at
each_at spot.Field at parts = parts
each_at spot.Inside at parts = Some at

abbrev mutual
  -- the first misplaced thing in an expression
  pub bad_in : Spot → Tree → Option ℕ
  bad_in sp (tree.name n) = None
  bad_in sp (tree.literal at v) = None
  bad_in sp (tree.interpolated at first hs) = bad_in_holes (inner sp) hs
  bad_in sp (tree.object o) = bad_in_object sp o
  bad_in sp (tree.array at es) = bad_in_all sp es
  bad_in sp (tree.parentheses at e) = bad_in (inner sp) e
  bad_in sp (tree.call f es) = bad_in_all (inner sp) es
  bad_in sp (tree.access e k n) = bad_in (inner sp) e
  bad_in sp (tree.index e k i) = or_else (bad_in (inner sp) e) (bad_in (inner sp) i)
  bad_in sp (tree.not_null e) = bad_in (inner sp) e
  bad_in sp (tree.prefixed at p e) = bad_in (inner sp) e
  bad_in sp (tree.binary o a b) = or_else (bad_in (inner sp) a) (bad_in (inner sp) b)
  bad_in sp (tree.conditional c a b) =
      or_else (bad_in (inner sp) c) (or_else (bad_in (inner sp) a) (bad_in (inner sp) b))

  pub bad_in_all : Spot → Trees → Option ℕ
  bad_in_all sp tree.none = None
  bad_in_all sp (tree.more e es) = or_else (bad_in sp e) (bad_in_all sp es)

  pub bad_in_holes : Spot → Holes → Option ℕ
  bad_in_holes sp tree.no_hole = None
  bad_in_holes sp (tree.hole e after hs) = or_else (bad_in sp e) (bad_in_holes sp hs)

  pub bad_in_object : Spot → ObjectTree → Option ℕ
  bad_in_object sp (tree.braces at ms) = bad_in_members sp ms

  pub bad_in_members : Spot → MemberTrees → Option ℕ
  bad_in_members sp tree.no_member = None
  bad_in_members sp (tree.and_member m ms) = or_else (bad_in_member sp m) (bad_in_members sp ms)

  -- a resource is a member of the body of a resource alone
  pub bad_in_member : Spot → MemberTree → Option ℕ
  bad_in_member sp (tree.property l v) = or_else (bad_label sp l) (bad_in_value sp v)
  bad_in_member sp (tree.child ds r) = Some (resource_offset r)

  pub bad_in_value : Spot → ValueTree → Option ℕ
  bad_in_value sp (tree.plain e) = bad_in sp e
  bad_in_value sp (tree.each (tree.loop at ns xs) e) =
      each_at sp at (or_else (bad_in spot.Inside xs) (bad_in spot.Inside e))
