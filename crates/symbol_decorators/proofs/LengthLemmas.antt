-- There are as many lists of decorators as symbols.
use Rattle.std.proofs.Common.{◌≡◌, ℕ, List, [], ◌∷◌, ◌++◌, length, Option, Some, None, arith, length-append}
use Rattle.std.proofs.Common.{refl}
use Rattle.bicep_tree.specs.Tree.{DecoratorTrees, ResourceTree, BodyTree, ObjectTree, MemberTree, MemberTrees}
use Rattle.bicep_tree.specs.Tree.{DeclarationTree, FileTree}
use Rattle.bicep_tree.specs.Tree as tree
use Rattle.bicep_names.specs.declared.kind.Kind.TheVariants as k
use Rattle.bicep_symbols.specs.Entries as e
use Rattle.bicep_symbols.specs.Entries.{Symbol, symbol_at, resource_kind, module_kind, first_file, files_after}
use Rattle.bicep_symbols.specs.Entries.{symbols_of}
use Rattle.symbol_decorators.specs.Decorators as d
use Rattle.symbol_decorators.specs.Decorators.{decorators_of}

-- as many of these as of those
abbrev AreAsMany : List DecoratorTrees → List Symbol → Type 0
AreAsMany xs ss = length xs ≡ length ss

one_more : (xs : List DecoratorTrees) (ss : List Symbol) (ds : DecoratorTrees) (s : Symbol) → AreAsMany xs ss
    → AreAsMany (xs ++ ds ∷ []) (ss ++ s ∷ [])
one_more xs ss ds s h =
    let a = length-append xs (ds ∷ []) in let b = length-append ss (s ∷ []) in omega (arith, a, b, h)

mutual
  of_resource : (ds : DecoratorTrees) (inside : Option ℕ) (r : ResourceTree) (xs : List DecoratorTrees)
      (ss : List Symbol) → AreAsMany xs ss → AreAsMany (d.with_resource ds r xs) (e.with_resource inside r ss)
  of_resource ds inside (tree.resource at n q x b) xs ss h =
      let s = symbol_at n (resource_kind inside b) in
      of_body (length ss) b (xs ++ ds ∷ []) (ss ++ s ∷ []) (one_more xs ss ds s h)

  of_body : (n : ℕ) (b : BodyTree) (xs : List DecoratorTrees) (ss : List Symbol) → AreAsMany xs ss
      → AreAsMany (d.with_body b xs) (e.with_body n b ss)
  of_body n (tree.body_plain o) xs ss h = of_object n o xs ss h
  of_body n (tree.body_if at c o) xs ss h = of_object n o xs ss h
  of_body n (tree.body_each l o) xs ss h = of_object n o xs ss h
  of_body n (tree.body_each_if l at c o) xs ss h = of_object n o xs ss h

  of_object : (n : ℕ) (o : ObjectTree) (xs : List DecoratorTrees) (ss : List Symbol) → AreAsMany xs ss
      → AreAsMany (d.with_object o xs) (e.with_object n o ss)
  of_object n (tree.braces at ms) xs ss h = of_members n ms xs ss h

  of_members : (n : ℕ) (ms : MemberTrees) (xs : List DecoratorTrees) (ss : List Symbol) → AreAsMany xs ss
      → AreAsMany (d.with_members ms xs) (e.with_members n ms ss)
  of_members n tree.no_member xs ss h = h
  of_members n (tree.and_member m ms) xs ss h =
      of_members n ms (d.with_member m xs) (e.with_member n m ss) (of_member n m xs ss h)

  of_member : (n : ℕ) (m : MemberTree) (xs : List DecoratorTrees) (ss : List Symbol) → AreAsMany xs ss
      → AreAsMany (d.with_member m xs) (e.with_member n m ss)
  of_member n (tree.property l v) xs ss h = h
  of_member n (tree.child ds r) xs ss h = of_resource ds (Some n) r xs ss h

of_declaration : (file : ℕ) (ds : DecoratorTrees) (t : DeclarationTree) (xs : List DecoratorTrees)
    (ss : List Symbol) → AreAsMany xs ss → AreAsMany (d.with_declaration ds t xs) (e.with_declaration file t ss)
of_declaration file ds (tree.metadata at n x) xs ss h = h
of_declaration file ds (tree.target_scope at x) xs ss h = h
of_declaration file ds (tree.param at n t) xs ss h = one_more xs ss ds (symbol_at n k.Parameter) h
of_declaration file ds (tree.param_with at n t x) xs ss h = one_more xs ss ds (symbol_at n k.Parameter) h
of_declaration file ds (tree.var at n v) xs ss h = one_more xs ss ds (symbol_at n k.Variable) h
of_declaration file ds (tree.output at n t v) xs ss h = h
of_declaration file ds (tree.a_resource r) xs ss h = of_resource ds None r xs ss h
of_declaration file ds (tree.a_module at n q b) xs ss h = one_more xs ss ds (symbol_at n (module_kind file b)) h

of_statements : (files : List ℕ) (f : FileTree) (xs : List DecoratorTrees) (ss : List Symbol) → AreAsMany xs ss
    → AreAsMany (d.with_statements f xs) (e.with_statements files f ss)
of_statements files [] xs ss h = h
of_statements files (tree.statement ds t ∷ f) xs ss h =
    of_statements (files_after t files) f (d.with_declaration ds t xs) (e.with_declaration (first_file files) t ss)
    (of_declaration (first_file files) ds t xs ss h)

pub as_many : (files : List ℕ) (f : FileTree) → length (decorators_of f) ≡ length (symbols_of files f)
as_many files f = of_statements files f [] [] refl
