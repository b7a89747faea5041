-- The decorators of symbols nest no deeper than the file.
use Rattle.std.proofs.Common.{◌≤◌, ℕ, zero, suc, List, [], ◌∷◌, ◌++◌, arith}
use Rattle.std.specs.Prelude.{slice_get}
use Rattle.bicep_tree.specs.Nesting.{deepest_decorator, resource_nesting, body_nesting, object_nesting}
use Rattle.bicep_tree.specs.Nesting.{deepest_member, member_nesting, declaration_nesting, file_nesting}
use Rattle.bicep_tree.specs.Tree.{DecoratorTrees, ResourceTree, BodyTree, ObjectTree, MemberTree, MemberTrees}
use Rattle.bicep_tree.specs.Tree.{DeclarationTree, FileTree}
use Rattle.bicep_tree.specs.Tree as tree
use Rattle.symbol_decorators.specs.Decorators.{with_resource, with_body, with_object, with_members, with_member}
use Rattle.symbol_decorators.specs.Decorators.{with_declaration, with_statements, decorators_of}
use Rattle.parameter_rules.specs.Files.{AllNest}
use Rattle.parameter_rules.specs.Rules.{or_no}

one_more : (xs : List DecoratorTrees) (ds : DecoratorTrees) → AllNest xs → deepest_decorator ds ≤ 119
    → AllNest (xs ++ ds ∷ [])
one_more [] ds h g = (g, tt)
one_more (x ∷ xs) ds h g = (h.0, one_more xs ds h.1 g)

mutual
  of_resource : (ds : DecoratorTrees) (r : ResourceTree) (xs : List DecoratorTrees) → deepest_decorator ds ≤ 119
      → resource_nesting r ≤ 119 → AllNest xs → AllNest (with_resource ds r xs)
  of_resource ds (tree.resource at n q x b) xs g e h = of_body b (xs ++ ds ∷ []) e (one_more xs ds h g)

  of_body : (b : BodyTree) (xs : List DecoratorTrees) → body_nesting b ≤ 119 → AllNest xs → AllNest (with_body b xs)
  of_body (tree.body_plain o) xs e h = of_object o xs e h
  of_body (tree.body_if at c o) xs e h = of_object o xs (omega (arith, e)) h
  of_body (tree.body_each l o) xs e h = of_object o xs (omega (arith, e)) h
  of_body (tree.body_each_if l at c o) xs e h = of_object o xs (omega (arith, e)) h

  of_object : (o : ObjectTree) (xs : List DecoratorTrees) → object_nesting o ≤ 119 → AllNest xs
      → AllNest (with_object o xs)
  of_object (tree.braces at ms) xs e h = of_members ms xs (omega (arith, e)) h

  of_members : (ms : MemberTrees) (xs : List DecoratorTrees) → deepest_member ms ≤ 119 → AllNest xs
      → AllNest (with_members ms xs)
  of_members tree.no_member xs e h = h
  of_members (tree.and_member m ms) xs e h =
      of_members ms (with_member m xs) (omega (arith, e)) (of_member m xs (omega (arith, e)) h)

  of_member : (m : MemberTree) (xs : List DecoratorTrees) → member_nesting m ≤ 119 → AllNest xs
      → AllNest (with_member m xs)
  of_member (tree.property l v) xs e h = h
  of_member (tree.child ds r) xs e h = of_resource ds r xs (omega (arith, e)) (omega (arith, e)) h

of_declaration : (ds : DecoratorTrees) (t : DeclarationTree) (xs : List DecoratorTrees) → deepest_decorator ds ≤ 119
    → declaration_nesting t ≤ 119 → AllNest xs → AllNest (with_declaration ds t xs)
of_declaration ds (tree.metadata at n x) xs g e h = h
of_declaration ds (tree.target_scope at x) xs g e h = h
of_declaration ds (tree.param at n t) xs g e h = one_more xs ds h g
of_declaration ds (tree.param_with at n t x) xs g e h = one_more xs ds h g
of_declaration ds (tree.var at n v) xs g e h = one_more xs ds h g
of_declaration ds (tree.output at n t v) xs g e h = h
of_declaration ds (tree.a_resource r) xs g e h = of_resource ds r xs g e h
of_declaration ds (tree.a_module at n q b) xs g e h = one_more xs ds h g

of_statements : (f : FileTree) (xs : List DecoratorTrees) → file_nesting f ≤ 119 → AllNest xs
    → AllNest (with_statements f xs)
of_statements [] xs e h = h
of_statements (tree.statement ds t ∷ f) xs e h =
    of_statements f (with_declaration ds t xs) (omega (arith, e))
    (of_declaration ds t xs (omega (arith, e)) (omega (arith, e)) h)

pub all_nest : (f : FileTree) → file_nesting f ≤ 119 → AllNest (decorators_of f)
all_nest f e = of_statements f [] e tt

pub nests_at : (xs : List DecoratorTrees) (n : ℕ) → AllNest xs → deepest_decorator (or_no (slice_get xs n)) ≤ 119
nests_at [] n h = omega arith
nests_at (x ∷ xs) zero h = h.0
nests_at (x ∷ xs) (suc n) h = nests_at xs n h.1
