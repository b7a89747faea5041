-- The decorators of the symbols of a file without bad ones.
use Rattle.std.proofs.Common.{◌≡◌, List, [], ◌∷◌, ◌++◌, Option, Some, None, refl}
use Rattle.std.specs.List.{AllByRecursion}
use Rattle.foundation.specs.Options.{or_else}
use Rattle.bicep_tree.specs.Tree.{DecoratorTrees, ResourceTree, BodyTree, ObjectTree, MemberTree, MemberTrees}
use Rattle.bicep_tree.specs.Tree.{DeclarationTree, FileTree}
use Rattle.bicep_tree.specs.Tree as tree
use Rattle.bicep_decorators.specs.Decorators.{bad_at, place_of, resource_place, bad_in_resource, bad_in_body}
use Rattle.bicep_decorators.specs.Decorators.{bad_in_object, bad_in_members, bad_in_member, bad_in_declaration}
use Rattle.bicep_decorators.specs.Decorators.{bad_in_statement, bad_in_file}
use Rattle.bicep_decorators.specs.declared.place.Place.{Place}
use Rattle.symbol_decorators.specs.Decorators.{with_resource, with_body, with_object, with_members, with_member}
use Rattle.symbol_decorators.specs.Decorators.{with_declaration, with_statements, decorators_of}

-- none of the decorators is bad at a place
abbrev pub IsFine : DecoratorTrees → Type 0
IsFine ds = (p : Place) × (bad_at p ds ≡ None)

abbrev pub AreFine : List DecoratorTrees → Type 0
AreFine xs = AllByRecursion IsFine xs

first_none : {A : Type 0} (a b : Option A) → or_else a b ≡ None → a ≡ None
first_none None b e = refl
first_none (Some x) b e = absurd cc

second_none : {A : Type 0} (a b : Option A) → or_else a b ≡ None → b ≡ None
second_none None b e = e
second_none (Some x) b e = absurd cc

one_more : (xs : List DecoratorTrees) (ds : DecoratorTrees) → AreFine xs → IsFine ds → AreFine (xs ++ ds ∷ [])
one_more [] ds h g = (g, tt)
one_more (x ∷ xs) ds h g = (h.0, one_more xs ds h.1 g)

mutual
  of_resource : (ds : DecoratorTrees) (r : ResourceTree) (xs : List DecoratorTrees) → IsFine ds
      → bad_in_resource r ≡ None → AreFine xs → AreFine (with_resource ds r xs)
  of_resource ds (tree.resource at n q x b) xs g e h = of_body b (xs ++ ds ∷ []) e (one_more xs ds h g)

  of_body : (b : BodyTree) (xs : List DecoratorTrees) → bad_in_body b ≡ None → AreFine xs → AreFine (with_body b xs)
  of_body (tree.body_plain o) xs e h = of_object o xs e h
  of_body (tree.body_if at c o) xs e h = of_object o xs e h
  of_body (tree.body_each l o) xs e h = of_object o xs e h
  of_body (tree.body_each_if l at c o) xs e h = of_object o xs e h

  of_object : (o : ObjectTree) (xs : List DecoratorTrees) → bad_in_object o ≡ None → AreFine xs
      → AreFine (with_object o xs)
  of_object (tree.braces at ms) xs e h = of_members ms xs e h

  of_members : (ms : MemberTrees) (xs : List DecoratorTrees) → bad_in_members ms ≡ None → AreFine xs
      → AreFine (with_members ms xs)
  of_members tree.no_member xs e h = h
  of_members (tree.and_member m ms) xs e h =
      of_members ms (with_member m xs) (second_none (bad_in_member m) (bad_in_members ms) e)
      (of_member m xs (first_none (bad_in_member m) (bad_in_members ms) e) h)

  of_member : (m : MemberTree) (xs : List DecoratorTrees) → bad_in_member m ≡ None → AreFine xs
      → AreFine (with_member m xs)
  of_member (tree.property l v) xs e h = h
  of_member (tree.child ds r) xs e h =
      of_resource ds r xs
      (resource_place r, first_none (bad_at (resource_place r) ds) (bad_in_resource r) e)
      (second_none (bad_at (resource_place r) ds) (bad_in_resource r) e) h

of_declaration : (ds : DecoratorTrees) (t : DeclarationTree) (xs : List DecoratorTrees) → IsFine ds
    → bad_in_declaration t ≡ None → AreFine xs → AreFine (with_declaration ds t xs)
of_declaration ds (tree.metadata at n x) xs g e h = h
of_declaration ds (tree.target_scope at x) xs g e h = h
of_declaration ds (tree.param at n t) xs g e h = one_more xs ds h g
of_declaration ds (tree.param_with at n t x) xs g e h = one_more xs ds h g
of_declaration ds (tree.var at n v) xs g e h = one_more xs ds h g
of_declaration ds (tree.output at n t v) xs g e h = h
of_declaration ds (tree.a_resource r) xs g e h = of_resource ds r xs g e h
of_declaration ds (tree.a_module at n q b) xs g e h = one_more xs ds h g

of_statements : (f : FileTree) (xs : List DecoratorTrees) → bad_in_file f ≡ None → AreFine xs
    → AreFine (with_statements f xs)
of_statements [] xs e h = h
of_statements (tree.statement ds t ∷ f) xs e h =
    let own = first_none (bad_in_statement (tree.statement ds t)) (bad_in_file f) e in
    of_statements f (with_declaration ds t xs)
    (second_none (bad_in_statement (tree.statement ds t)) (bad_in_file f) e)
    (of_declaration ds t xs (place_of t, first_none (bad_at (place_of t) ds) (bad_in_declaration t) own)
    (second_none (bad_at (place_of t) ds) (bad_in_declaration t) own) h)

pub all_fine : (f : FileTree) → bad_in_file f ≡ None → AreFine (decorators_of f)
all_fine f e = of_statements f [] e tt
