-- The decorators of the outputs of a file in source order. So the number of an output is that of its decorators.
use Rattle.std.specs.Prelude.{List, [], ◌∷◌, ◌++◌}
use Rattle.bicep_tree.specs.Tree.{DecoratorTrees, DeclarationTree, StatementTree, FileTree}
use Rattle.bicep_tree.specs.Tree as tree

-- these, and then those of an output
abbrev pub with_declaration : DecoratorTrees → DeclarationTree → List DecoratorTrees → List DecoratorTrees
with_declaration ds (tree.metadata at n e) xs = xs
with_declaration ds (tree.target_scope at e) xs = xs
with_declaration ds (tree.param at n t) xs = xs
with_declaration ds (tree.param_with at n t e) xs = xs
with_declaration ds (tree.var at n v) xs = xs
with_declaration ds (tree.output at n t v) xs = xs ++ ds ∷ []
with_declaration ds (tree.a_resource r) xs = xs
with_declaration ds (tree.a_module at n q b) xs = xs

abbrev pub with_statement : StatementTree → List DecoratorTrees → List DecoratorTrees
with_statement (tree.statement ds d) xs = with_declaration ds d xs

abbrev pub with_statements : FileTree → List DecoratorTrees → List DecoratorTrees
with_statements [] xs = xs
with_statements (s ∷ f) xs = with_statements f (with_statement s xs)

abbrev pub output_decorators : FileTree → List DecoratorTrees
output_decorators f = with_statements f []
