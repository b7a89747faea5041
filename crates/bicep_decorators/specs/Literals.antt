-- Literals: texts without interpolation, whole numbers with or without one `-`, `true`, `false`, `null`, and objects
-- and arrays of literals.
use Rattle.std.specs.Prelude.{◌&&◌, Bool, true, false, Option, Some, None}
use Rattle.bicep_tree.specs.declared.leaf.Literal.{Literal}
use Rattle.bicep_tree.specs.declared.leaf.Literal.TheVariants as l
use Rattle.bicep_tree.specs.declared.leaf.Prefix.{Prefix}
use Rattle.bicep_tree.specs.declared.leaf.Prefix.TheVariants as p
use Rattle.bicep_tree.specs.Tree.{Tree, name, literal, interpolated, object, array, parentheses, call, access, index}
use Rattle.bicep_tree.specs.Tree.{not_null, prefixed, binary, conditional, Trees, none, more, ObjectTree, braces}
use Rattle.bicep_tree.specs.Tree.{MemberTree, MemberTrees, no_member, and_member, property, child, ValueTree, plain}
use Rattle.bicep_tree.specs.Tree.{each}

-- the literal token that an expression is
abbrev pub literal_in : Tree → Option Literal
literal_in (literal at v) = Some v
literal_in e = None

abbrev pub number_literal : Option Literal → Bool
number_literal (Some (l.Number z)) = true
number_literal o = false

-- a whole number without a sign
abbrev pub is_number : Tree → Bool
is_number e = number_literal (literal_in e)

-- a whole number after a `-`
abbrev pub is_negated : Prefix → Tree → Bool
is_negated p.Negate e = is_number e
is_negated p.Not e = false

-- a whole number with or without one `-`
abbrev pub is_whole : Tree → Bool
is_whole (literal at v) = number_literal (Some v)
is_whole (prefixed at q e) = is_negated q e
is_whole e = false

abbrev mutual
  pub is_literal : Tree → Bool
  is_literal (name n) = false
  is_literal (literal at v) = true
  is_literal (interpolated at first hs) = false
  is_literal (object o) = is_literal_object o
  is_literal (array at es) = are_literals es
  is_literal (parentheses at e) = false
  is_literal (call f es) = false
  is_literal (access e k n) = false
  is_literal (index e k i) = false
  is_literal (not_null e) = false
  is_literal (prefixed at q e) = is_negated q e
  is_literal (binary o a b) = false
  is_literal (conditional c a b) = false

  pub are_literals : Trees → Bool
  are_literals none = true
  are_literals (more e es) = is_literal e && are_literals es

  pub is_literal_object : ObjectTree → Bool
  is_literal_object (braces at ms) = members_are_literals ms

  pub members_are_literals : MemberTrees → Bool
  members_are_literals no_member = true
  members_are_literals (and_member m ms) = is_literal_member m && members_are_literals ms

  pub is_literal_member : MemberTree → Bool
  is_literal_member (property n v) = is_literal_value v
  is_literal_member (child ds r) = false

  pub is_literal_value : ValueTree → Bool
  is_literal_value (plain e) = is_literal e
  is_literal_value (each l e) = false
