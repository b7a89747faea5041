-- The values of literals: texts without interpolation, whole numbers with or without one `-`, `true`, `false`, `null`,
-- and objects and arrays of literals.
use Rattle.std.specs.Prelude.{ℕ, ℤ, pos, negsuc, true, false, neg_ℤ, List, [], ◌∷◌, ◌++◌, Option, Some, None}
use Rattle.std.specs.Prelude.{option_and_then}
use Rattle.arm_value.specs.Json.{Json, null, bool, int, text, array, Row, no_items, item, Member}
use Rattle.arm_env.specs.Object.{object_of}
use Rattle.bicep_tree.specs.declared.leaf.Label.{Label}
use Rattle.bicep_tree.specs.declared.leaf.Label.TheVariants as label
use Rattle.bicep_tree.specs.declared.leaf.Literal.{Literal}
use Rattle.bicep_tree.specs.declared.leaf.Literal.TheVariants as l
use Rattle.bicep_tree.specs.declared.leaf.Prefix.{Prefix}
use Rattle.bicep_tree.specs.declared.leaf.Prefix.TheVariants as p
use Rattle.bicep_tree.specs.Tree as tree
use Rattle.bicep_tree.specs.Tree.{Tree, Trees, ObjectTree, MemberTree, MemberTrees, ValueTree}
use Rattle.bicep_decorators.specs.Literals.{literal_in}

-- ---- numbers

abbrev pub number_of : Literal → Option ℤ
number_of (l.Number z) = Some z
number_of (l.Text t) = None
number_of l.True = None
number_of l.False = None
number_of l.Null = None

-- a number after a `-`. That of a token is not negative
abbrev pub negative : ℤ → ℤ
negative (pos n) = neg_ℤ (pos n)
negative (negsuc n) = negsuc n

abbrev pub negated : Prefix → Option ℤ → Option ℤ
negated p.Negate (Some z) = Some (negative z)
negated p.Negate None = None
negated p.Not o = None

-- the number that an expression without a sign is
abbrev pub unsigned : Tree → Option ℤ
unsigned e = option_and_then number_of (literal_in e)

-- the whole number that an expression is, with or without one `-`
abbrev pub whole_of : Tree → Option ℤ
whole_of (tree.literal at v) = number_of v
whole_of (tree.prefixed at q e) = negated q (unsigned e)
whole_of e = None

-- ---- values

abbrev pub constant : Literal → Json
constant (l.Number z) = int z
constant (l.Text t) = text t
constant l.True = bool true
constant l.False = bool false
constant l.Null = null

abbrev pub int_or_null : Option ℤ → Json
int_or_null (Some z) = int z
int_or_null None = null

abbrev pub name_of : Label → List ℕ
name_of (label.Name n) = n.text
name_of (label.Quoted q) = q.text

-- the value of a literal; what is no literal has none, and counts as null
abbrev mutual
  pub value_of : Tree → Json
  value_of (tree.name n) = null
  value_of (tree.literal at v) = constant v
  value_of (tree.interpolated at first hs) = null
  value_of (tree.object o) = object_of (members_of o)
  value_of (tree.array at es) = array (row_of es)
  value_of (tree.parentheses at e) = null
  value_of (tree.call f es) = null
  value_of (tree.access e k n) = null
  value_of (tree.index e k i) = null
  value_of (tree.not_null e) = null
  value_of (tree.prefixed at q e) = int_or_null (whole_of (tree.prefixed at q e))
  value_of (tree.binary o a b) = null
  value_of (tree.conditional c a b) = null

  pub row_of : Trees → Row
  row_of tree.none = no_items
  row_of (tree.more e es) = item (value_of e) (row_of es)

  pub members_of : ObjectTree → List Member
  members_of (tree.braces at ms) = each_of ms

  pub each_of : MemberTrees → List Member
  each_of tree.no_member = []
  each_of (tree.and_member m ms) = member_of m ++ each_of ms

  pub member_of : MemberTree → List Member
  member_of (tree.property k v) = (name_of k, plain_value v) ∷ []
  member_of (tree.child ds r) = []

  pub plain_value : ValueTree → Json
  plain_value (tree.plain e) = value_of e
  plain_value (tree.each k e) = null
