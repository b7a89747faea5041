-- The decorators of the symbols of a file: of its parameters, variables, resources and modules in source order, those
-- of a nested resource after those of its parent. So the number of a symbol is that of its decorators.
use Rattle.std.specs.Prelude.{List, [], ◌∷◌, ◌++◌}
use Rattle.bicep_tree.specs.Tree.{DecoratorTrees, ResourceTree, BodyTree, ObjectTree, MemberTree, MemberTrees}
use Rattle.bicep_tree.specs.Tree.{DeclarationTree, StatementTree, FileTree}
use Rattle.bicep_tree.specs.Tree as tree

-- these, and then those of the resources that are nested in a resource
abbrev mutual
  pub with_nested : ResourceTree → List DecoratorTrees → List DecoratorTrees
  with_nested (tree.resource at n q x b) xs = with_body b xs

  pub with_body : BodyTree → List DecoratorTrees → List DecoratorTrees
  with_body (tree.body_plain o) xs = with_object o xs
  with_body (tree.body_if at c o) xs = with_object o xs
  with_body (tree.body_each l o) xs = with_object o xs
  with_body (tree.body_each_if l at c o) xs = with_object o xs

  pub with_object : ObjectTree → List DecoratorTrees → List DecoratorTrees
  with_object (tree.braces at ms) xs = with_members ms xs

  pub with_members : MemberTrees → List DecoratorTrees → List DecoratorTrees
  with_members tree.no_member xs = xs
  with_members (tree.and_member m ms) xs = with_members ms (with_member m xs)

  pub with_member : MemberTree → List DecoratorTrees → List DecoratorTrees
  with_member (tree.property l v) xs = xs
  with_member (tree.child ds r) xs = with_nested r (xs ++ ds ∷ [])

-- these, and then those of a resource and of the resources that are nested in it
abbrev pub with_resource : DecoratorTrees → ResourceTree → List DecoratorTrees → List DecoratorTrees
with_resource ds r xs = with_nested r (xs ++ ds ∷ [])

-- these, and then those of a declaration that has a symbol
abbrev pub with_declaration : DecoratorTrees → DeclarationTree → List DecoratorTrees → List DecoratorTrees
with_declaration ds (tree.metadata at n e) xs = xs
with_declaration ds (tree.target_scope at e) xs = xs
with_declaration ds (tree.param at n t) xs = xs ++ ds ∷ []
with_declaration ds (tree.param_with at n t e) xs = xs ++ ds ∷ []
with_declaration ds (tree.var at n v) xs = xs ++ ds ∷ []
with_declaration ds (tree.output at n t v) xs = xs
with_declaration ds (tree.a_resource r) xs = with_resource ds r xs
with_declaration ds (tree.a_module at n q b) xs = xs ++ ds ∷ []

abbrev pub with_statement : StatementTree → List DecoratorTrees → List DecoratorTrees
with_statement (tree.statement ds d) xs = with_declaration ds d xs

abbrev pub with_statements : FileTree → List DecoratorTrees → List DecoratorTrees
with_statements [] xs = xs
with_statements (s ∷ f) xs = with_statements f (with_statement s xs)

abbrev pub decorators_of : FileTree → List DecoratorTrees
decorators_of f = with_statements f []
