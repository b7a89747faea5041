-- How deep expressions nest: a leaf 0, and every composite one more than its deepest part.
use Rattle.std.specs.Prelude.{ℕ, ◌+◌, max, [], ◌∷◌}
use Rattle.bicep_tree.specs.Tree.{Tree, name, literal, interpolated, object, array, parentheses, call, access, index}
use Rattle.bicep_tree.specs.Tree.{not_null, prefixed, binary, conditional, Trees, none, more, Holes, no_hole, hole}
use Rattle.bicep_tree.specs.Tree.{ObjectTree, braces, MemberTree, property, child, MemberTrees, no_member, and_member}
use Rattle.bicep_tree.specs.Tree.{ValueTree, plain, each, LoopTree, loop, DecoratorTree, decorator, DecoratorTrees}
use Rattle.bicep_tree.specs.Tree.{no_decorator, and_decorator, ResourceTree, resource, BodyTree, body_plain, body_if}
use Rattle.bicep_tree.specs.Tree.{body_each, body_each_if, DeclarationTree, metadata, target_scope, param, param_with}
use Rattle.bicep_tree.specs.Tree.{var, output, a_resource, a_module, StatementTree, statement, FileTree}

abbrev mutual
  pub nesting : Tree → ℕ
  nesting (name n) = 0
  nesting (literal at v) = 0
  nesting (interpolated at first hs) = 1 + deepest_hole hs
  nesting (object o) = object_nesting o
  nesting (array at es) = 1 + deepest es
  nesting (parentheses at e) = 1 + nesting e
  nesting (call f es) = 1 + deepest es
  nesting (access e k n) = 1 + nesting e
  nesting (index e k i) = 1 + max (nesting e) (nesting i)
  nesting (not_null e) = 1 + nesting e
  nesting (prefixed at p e) = 1 + nesting e
  nesting (binary o a b) = 1 + max (nesting a) (nesting b)
  nesting (conditional c a b) = 1 + max (nesting c) (max (nesting a) (nesting b))

  pub deepest : Trees → ℕ
  deepest none = 0
  deepest (more e es) = max (nesting e) (deepest es)

  pub deepest_hole : Holes → ℕ
  deepest_hole no_hole = 0
  deepest_hole (hole e s hs) = max (nesting e) (deepest_hole hs)

  pub object_nesting : ObjectTree → ℕ
  object_nesting (braces at ms) = 1 + deepest_member ms

  -- a nested resource counts with its decorators and its body
  pub member_nesting : MemberTree → ℕ
  member_nesting (property l v) = value_nesting v
  member_nesting (child ds r) = max (deepest_decorator ds) (resource_nesting r)

  pub deepest_member : MemberTrees → ℕ
  deepest_member no_member = 0
  deepest_member (and_member m ms) = max (member_nesting m) (deepest_member ms)

  -- a for-expression is a composite of what it runs over and of its body
  pub value_nesting : ValueTree → ℕ
  value_nesting (plain e) = nesting e
  value_nesting (each l e) = 1 + max (loop_nesting l) (nesting e)

  pub loop_nesting : LoopTree → ℕ
  loop_nesting (loop at ns e) = nesting e

  pub decorator_nesting : DecoratorTree → ℕ
  decorator_nesting (decorator at f es) = deepest es

  pub deepest_decorator : DecoratorTrees → ℕ
  deepest_decorator no_decorator = 0
  deepest_decorator (and_decorator d ds) = max (decorator_nesting d) (deepest_decorator ds)

  pub resource_nesting : ResourceTree → ℕ
  resource_nesting (resource at n p x b) = body_nesting b

  pub body_nesting : BodyTree → ℕ
  body_nesting (body_plain o) = object_nesting o
  body_nesting (body_if at c o) = max (nesting c) (object_nesting o)
  body_nesting (body_each l o) = 1 + max (loop_nesting l) (object_nesting o)
  body_nesting (body_each_if l at c o) = 1 + max (loop_nesting l) (max (nesting c) (object_nesting o))

abbrev pub declaration_nesting : DeclarationTree → ℕ
declaration_nesting (metadata at n e) = nesting e
declaration_nesting (target_scope at e) = nesting e
declaration_nesting (param at n t) = 0
declaration_nesting (param_with at n t e) = nesting e
declaration_nesting (var at n v) = value_nesting v
declaration_nesting (output at n t v) = value_nesting v
declaration_nesting (a_resource r) = resource_nesting r
declaration_nesting (a_module at n p b) = body_nesting b

abbrev pub statement_nesting : StatementTree → ℕ
statement_nesting (statement ds d) = max (deepest_decorator ds) (declaration_nesting d)

-- the deepest expression of a file
abbrev pub file_nesting : FileTree → ℕ
file_nesting [] = 0
file_nesting (s ∷ ss) = max (statement_nesting s) (file_nesting ss)
