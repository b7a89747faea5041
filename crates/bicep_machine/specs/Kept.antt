-- What is kept of what was read: the part, and how deep it nests. In the place of an expression that nests above the
-- limit
-- a leaf is kept, and one more than the limit for its depth.
use Rattle.std.specs.Prelude.{ℕ, ◌+◌, max, nat_lt, List, [], ◌∷◌, ◌++◌, if◌then◌else◌}
use Rattle.bicep_tree.specs.declared.leaf.Name.{Name}
use Rattle.bicep_tree.specs.declared.leaf.Literal.TheVariants as l
use Rattle.bicep_tree.specs.declared.leaf.LoopNames.{LoopNames}
use Rattle.bicep_tree.specs.declared.leaf.Label.{Label}
use Rattle.bicep_tree.specs.declared.leaf.Function.{Function}
use Rattle.bicep_tree.specs.declared.leaf.Access.{Access}
use Rattle.bicep_tree.specs.declared.leaf.Indexing.{Indexing}
use Rattle.bicep_tree.specs.declared.leaf.Prefix.{Prefix}
use Rattle.bicep_tree.specs.declared.leaf.Operator.{Operator}
use Rattle.bicep_tree.specs.Tree.{Tree, literal, interpolated, object, array, parentheses, call, access, index}
use Rattle.bicep_tree.specs.Tree.{not_null, prefixed, binary, conditional, ObjectTree, braces, MemberTree, property}
use Rattle.bicep_tree.specs.Tree.{no_member, ValueTree, plain, each, LoopTree, loop, DecoratorTree, decorator}
use Rattle.bicep_tree.specs.Tree.{BodyTree, body_plain, body_if, body_each, body_each_if, trees, holes, members}

abbrev pub Kept : Type 0 → Type 0
Kept X = X × ℕ

-- a part of no depth
abbrev pub flat : {X : Type 0} → X → Kept X
flat x = (x, 0)

-- a list with one more at its end
abbrev pub put : {X : Type 0} → Kept (List X) → Kept X → Kept (List X)
put xs x = (xs.0 ++ x.0 ∷ [], max xs.1 x.1)

abbrev pub empty : {X : Type 0} → Kept (List X)
empty = ([], 0)

-- what replaces what nests too deep
abbrev pub gap : Tree
gap = literal 0 l.Null

abbrev pub object_gap : ObjectTree
object_gap = braces 0 no_member

abbrev pub value_gap : ValueTree
value_gap = plain gap

abbrev pub body_gap : BodyTree
body_gap = body_plain object_gap

-- a composite of parts that nest so deep
unfoldable pub made : {X : Type 0} → ℕ → X → X → ℕ → Kept X
made most lost x below = if nat_lt below most then (x, below + 1) else (lost, most + 1)

module _ (most : ℕ) where
  abbrev pub of_holes : ℕ → List ℕ → Kept (List (Tree × List ℕ)) → Kept Tree
  of_holes at first hs = made most gap (interpolated at first (holes hs.0)) hs.1

  abbrev pub of_members : ℕ → Kept (List MemberTree) → Kept ObjectTree
  of_members at ms = made most object_gap (braces at (members ms.0)) ms.1

  abbrev pub of_items : ℕ → Kept (List Tree) → Kept Tree
  of_items at es = made most gap (array at (trees es.0)) es.1

  abbrev pub of_parentheses : ℕ → Kept Tree → Kept Tree
  of_parentheses at e = made most gap (parentheses at e.0) e.1

  abbrev pub of_call : Function → Kept (List Tree) → Kept Tree
  of_call f es = made most gap (call f (trees es.0)) es.1

  abbrev pub of_access : Kept Tree → Access → Name → Kept Tree
  of_access e k n = made most gap (access e.0 k n) e.1

  abbrev pub of_index : Kept Tree → Indexing → Kept Tree → Kept Tree
  of_index e k x = made most gap (index e.0 k x.0) (max e.1 x.1)

  abbrev pub of_not_null : Kept Tree → Kept Tree
  of_not_null e = made most gap (not_null e.0) e.1

  abbrev pub of_prefix : ℕ → Prefix → Kept Tree → Kept Tree
  of_prefix at p e = made most gap (prefixed at p e.0) e.1

  abbrev pub of_binary : Operator → Kept Tree → Kept Tree → Kept Tree
  of_binary o a b = made most gap (binary o a.0 b.0) (max a.1 b.1)

  abbrev pub of_conditional : Kept Tree → Kept Tree → Kept Tree → Kept Tree
  of_conditional c a b = made most gap (conditional c.0 a.0 b.0) (max c.1 (max a.1 b.1))

  -- the value of a for-expression
  abbrev pub of_each : Kept LoopTree → Kept Tree → Kept ValueTree
  of_each l e = made most value_gap (each l.0 e.0) (max l.1 e.1)

  abbrev pub of_body_each : Kept LoopTree → Kept ObjectTree → Kept BodyTree
  of_body_each l o = made most body_gap (body_each l.0 o.0) (max l.1 o.1)

  abbrev pub of_body_each_if : Kept LoopTree → ℕ → Kept Tree → Kept ObjectTree → Kept BodyTree
  of_body_each_if l at c o = made most body_gap (body_each_if l.0 at c.0 o.0) (max l.1 (max c.1 o.1))

abbrev pub of_object : Kept ObjectTree → Kept Tree
of_object o = (object o.0, o.1)

abbrev pub of_plain : Kept Tree → Kept ValueTree
of_plain e = (plain e.0, e.1)

abbrev pub of_property : Label → Kept ValueTree → Kept MemberTree
of_property l v = (property l v.0, v.1)

abbrev pub of_loop : ℕ → LoopNames → Kept Tree → Kept LoopTree
of_loop at ns e = (loop at ns e.0, e.1)

abbrev pub of_decorator : ℕ → Function → Kept (List Tree) → Kept DecoratorTree
of_decorator at f es = (decorator at f (trees es.0), es.1)

abbrev pub of_body_plain : Kept ObjectTree → Kept BodyTree
of_body_plain o = (body_plain o.0, o.1)

abbrev pub of_body_if : ℕ → Kept Tree → Kept ObjectTree → Kept BodyTree
of_body_if at c o = (body_if at c.0 o.0, max c.1 o.1)

-- a hole, and the characters after it
abbrev pub of_hole : Kept Tree → List ℕ → Kept (Tree × List ℕ)
of_hole e s = ((e.0, s), e.1)
