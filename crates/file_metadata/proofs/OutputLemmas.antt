-- The decorators of outputs: as many as outputs, and none nests deeper than the file.
use Rattle.std.proofs.Common.{◌≡◌, ◌≤◌, ◌+◌, List, [], ◌∷◌, ◌++◌, length, arith, length-append}
use Rattle.bicep_symbols.specs.Outputs.{outputs_of}
use Rattle.bicep_tree.specs.Nesting.{deepest_decorator, file_nesting}
use Rattle.bicep_tree.specs.Tree.{DecoratorTrees, DeclarationTree, FileTree}
use Rattle.bicep_tree.specs.Tree as tree
use Rattle.parameter_rules.specs.Files.{AllNest}
use Rattle.file_metadata.specs.Outputs.{with_declaration, with_statements, output_decorators}

one_more : (xs : List DecoratorTrees) (ds : DecoratorTrees) → AllNest xs → deepest_decorator ds ≤ 119
    → AllNest (xs ++ ds ∷ [])
one_more [] ds h g = (g, tt)
one_more (x ∷ xs) ds h g = (h.0, one_more xs ds h.1 g)

declaration_nests : (ds : DecoratorTrees) (t : DeclarationTree) (xs : List DecoratorTrees)
    → deepest_decorator ds ≤ 119 → AllNest xs → AllNest (with_declaration ds t xs)
declaration_nests ds (tree.metadata at n x) xs g h = h
declaration_nests ds (tree.target_scope at x) xs g h = h
declaration_nests ds (tree.param at n t) xs g h = h
declaration_nests ds (tree.param_with at n t x) xs g h = h
declaration_nests ds (tree.var at n v) xs g h = h
declaration_nests ds (tree.output at n t v) xs g h = one_more xs ds h g
declaration_nests ds (tree.a_resource r) xs g h = h
declaration_nests ds (tree.a_module at n q b) xs g h = h

statements_nest : (f : FileTree) (xs : List DecoratorTrees) → file_nesting f ≤ 119 → AllNest xs
    → AllNest (with_statements f xs)
statements_nest [] xs e h = h
statements_nest (tree.statement ds t ∷ f) xs e h =
    statements_nest f (with_declaration ds t xs) (omega (arith, e)) (declaration_nests ds t xs (omega (arith, e)) h)

pub outputs_nest : (f : FileTree) → file_nesting f ≤ 119 → AllNest (output_decorators f)
outputs_nest f e = statements_nest f [] e tt

-- ---- how many

longer : (xs : List DecoratorTrees) (ds : DecoratorTrees) → length (xs ++ ds ∷ []) ≡ length xs + 1
longer xs ds = length-append xs (ds ∷ [])

counted : (f : FileTree) (xs : List DecoratorTrees) → length (with_statements f xs) ≡ length xs + length (outputs_of f)
counted [] xs = omega arith
counted (tree.statement ds (tree.metadata at n x) ∷ f) xs = counted f xs
counted (tree.statement ds (tree.target_scope at x) ∷ f) xs = counted f xs
counted (tree.statement ds (tree.param at n t) ∷ f) xs = counted f xs
counted (tree.statement ds (tree.param_with at n t x) ∷ f) xs = counted f xs
counted (tree.statement ds (tree.var at n v) ∷ f) xs = counted f xs
counted (tree.statement ds (tree.output at n t v) ∷ f) xs =
    let a = counted f (xs ++ ds ∷ []) in let b = longer xs ds in omega (arith, a, b)
counted (tree.statement ds (tree.a_resource r) ∷ f) xs = counted f xs
counted (tree.statement ds (tree.a_module at n q b) ∷ f) xs = counted f xs

pub as_many : (f : FileTree) → length (output_decorators f) ≡ length (outputs_of f)
as_many f = let a = counted f [] in omega (arith, a)
