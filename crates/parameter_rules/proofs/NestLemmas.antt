-- Values of literals nest at most as deep as the literals.
use Rattle.std.proofs.Common.{◌≡◌, ◌≤◌, ℕ, suc, List, [], ◌∷◌, Option, Some, None, arith, ap}
use Rattle.std.specs.Ordering.{match_ordering}
use Rattle.std.specs.declared.cmp.Ordering.{Ordering}
use Rattle.std.specs.declared.cmp.Ordering.TheVariants.{Less, Equal, Greater}
use Rattle.std.specs.Prelude.{ℤ, Bool, true, false, max, if◌then◌else◌}
use Rattle.arm_value.specs.Json.{Json, Member, put, put_each, key_cmp, members_nesting, row_nesting}
use Rattle.arm_value.specs.Json as json
use Rattle.bicep_tree.specs.declared.leaf.Literal.{Literal}
use Rattle.bicep_tree.specs.declared.leaf.Literal.TheVariants as l
use Rattle.bicep_decorators.specs.declared.kind.DecoratorKind.{DecoratorKind}
use Rattle.parameter_rules.specs.Kinds.{is_of, arguments_of}
use Rattle.bicep_tree.specs.Nesting.{nesting, deepest_decorator, deepest, object_nesting, deepest_member, value_nesting}
use Rattle.bicep_tree.specs.Tree as tree
use Rattle.bicep_tree.specs.Tree.{Tree, Trees, ObjectTree, MemberTrees, ValueTree, DecoratorTrees}
use Rattle.parameter_rules.specs.Literals.{constant, int_or_null, whole_of, value_of, row_of, members_of, each_of}
use Rattle.parameter_rules.specs.Literals.{plain_value}

module _ (limit : ℕ) where
  put_by : (o : Ordering) (k : List ℕ) (j : Json) (m : Member) (ms : List Member) → json.nesting j ≤ limit
      → members_nesting (m ∷ ms) ≤ limit → members_nesting (put k j ms) ≤ limit
      → members_nesting (match_ordering o ((k, j) ∷ m ∷ ms) ((k, j) ∷ ms) (m ∷ put k j ms)) ≤ limit
  put_by Less k j m ms p h r = omega (arith, p, h)
  put_by Equal k j m ms p h r = omega (arith, p, h)
  put_by Greater k j m ms p h r = omega (arith, h, r)

  put_nests : (k : List ℕ) (j : Json) (ms : List Member) → json.nesting j ≤ limit → members_nesting ms ≤ limit
      → members_nesting (put k j ms) ≤ limit
  put_nests k j [] p h = omega (arith, p)
  put_nests k j (m ∷ ms) p h =
      put_by (key_cmp k m.0) k j m ms p h (put_nests k j ms p (omega (arith, h)))

  pub put_each_nests : (ms ns : List Member) → members_nesting ms ≤ limit → members_nesting ns ≤ limit
      → members_nesting (put_each ms ns) ≤ limit
  put_each_nests ms [] p h = p
  put_each_nests ms (n ∷ ns) p h =
      put_each_nests (put n.0 n.1 ms) ns (put_nests n.0 n.1 ms (omega (arith, h)) p) (omega (arith, h))

constant_nests : (v : Literal) → json.nesting (constant v) ≤ 0
constant_nests (l.Number z) = omega arith
constant_nests (l.Text t) = omega arith
constant_nests l.True = omega arith
constant_nests l.False = omega arith
constant_nests l.Null = omega arith

number_nests : (o : Option ℤ) (n : ℕ) → json.nesting (int_or_null o) ≤ n
number_nests (Some z) n = omega arith
number_nests None n = omega arith

mutual
  pub value_nests : (e : Tree) → json.nesting (value_of e) ≤ nesting e
  value_nests (tree.name n) = omega arith
  value_nests (tree.literal at v) = constant_nests v
  value_nests (tree.interpolated at first hs) = omega arith
  value_nests (tree.object o) = object_nests o
  value_nests (tree.array at es) = let h = row_nests es in omega (arith, h)
  value_nests (tree.parentheses at e) = omega arith
  value_nests (tree.call f es) = omega arith
  value_nests (tree.access e k n) = omega arith
  value_nests (tree.index e k i) = omega arith
  value_nests (tree.not_null e) = omega arith
  value_nests (tree.prefixed at q e) = number_nests (whole_of (tree.prefixed at q e)) (nesting (tree.prefixed at q e))
  value_nests (tree.binary o a b) = omega arith
  value_nests (tree.conditional c a b) = omega arith

  row_nests : (es : Trees) → row_nesting (row_of es) ≤ deepest es
  row_nests tree.none = omega arith
  row_nests (tree.more e es) = let h = value_nests e in let r = row_nests es in omega (arith, h, r)

  object_nests : (o : ObjectTree) → suc (members_nesting (put_each [] (members_of o))) ≤ object_nesting o
  object_nests (tree.braces at ms) =
      let h = put_each_nests (deepest_member ms) [] (each_of ms) (omega arith) (each_nests ms) in omega (arith, h)

  each_nests : (ms : MemberTrees) → members_nesting (each_of ms) ≤ deepest_member ms
  each_nests tree.no_member = omega arith
  each_nests (tree.and_member (tree.property k v) ms) =
      let h = plain_nests v in let r = each_nests ms in omega (arith, h, r)
  each_nests (tree.and_member (tree.child ds x) ms) = let r = each_nests ms in omega (arith, r)

  pub plain_nests : (v : ValueTree) → json.nesting (plain_value v) ≤ value_nesting v
  plain_nests (tree.plain e) = value_nests e
  plain_nests (tree.each k e) = omega arith

-- ---- arguments of decorators

abbrev nesting_of : Option Trees → ℕ
nesting_of None = 0
nesting_of (Some es) = deepest es

chosen : (b : Bool) (own : Trees) (o : Option Trees) (n : ℕ) → deepest own ≤ n → nesting_of o ≤ n
    → nesting_of (if b then Some own else o) ≤ n
chosen true own o n h g = h
chosen false own o n h g = g

all_nest : (kind : DecoratorKind) (ds : DecoratorTrees) → nesting_of (arguments_of kind ds) ≤ deepest_decorator ds
all_nest kind tree.no_decorator = omega arith
all_nest kind (tree.and_decorator (tree.decorator at f es) ds) =
    let h = all_nest kind ds in
    chosen (is_of kind (tree.decorator at f es)) es (arguments_of kind ds) (max (deepest es) (deepest_decorator ds))
    (omega arith) (omega (arith, h))

-- the arguments of a decorator nest no deeper than all
pub arguments_nest : (kind : DecoratorKind) (ds : DecoratorTrees) (es : Trees) → arguments_of kind ds ≡ Some es
    → deepest_decorator ds ≤ 119 → deepest es ≤ 119
arguments_nest kind ds es e h =
    let n = all_nest kind ds in let s = ap nesting_of e in omega (arith, n, s, h)
