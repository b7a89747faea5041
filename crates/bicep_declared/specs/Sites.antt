-- The declarations of a file in source order, a nested resource after its parent, as symbols are.
use Rattle.std.specs.Prelude.{List, [], ◌∷◌, ◌++◌}
use Rattle.bicep_tree.specs.Tree.{ResourceTree, BodyTree, ObjectTree, MemberTree, MemberTrees, DeclarationTree}
use Rattle.bicep_tree.specs.Tree.{StatementTree, FileTree}
use Rattle.bicep_tree.specs.Tree as tree

-- these declarations, and then the resources that are nested in a resource
abbrev mutual
  pub with_nested : ResourceTree → List DeclarationTree → List DeclarationTree
  with_nested (tree.resource at n q x b) ds = with_body b ds

  pub with_body : BodyTree → List DeclarationTree → List DeclarationTree
  with_body (tree.body_plain o) ds = with_object o ds
  with_body (tree.body_if at c o) ds = with_object o ds
  with_body (tree.body_each l o) ds = with_object o ds
  with_body (tree.body_each_if l at c o) ds = with_object o ds

  pub with_object : ObjectTree → List DeclarationTree → List DeclarationTree
  with_object (tree.braces at ms) ds = with_members ms ds

  pub with_members : MemberTrees → List DeclarationTree → List DeclarationTree
  with_members tree.no_member ds = ds
  with_members (tree.and_member m ms) ds = with_members ms (with_member m ds)

  pub with_member : MemberTree → List DeclarationTree → List DeclarationTree
  with_member (tree.property l v) ds = ds
  with_member (tree.child es r) ds = with_nested r (ds ++ tree.a_resource r ∷ [])

-- these declarations, and then those nested in one
abbrev pub with_parts : DeclarationTree → List DeclarationTree → List DeclarationTree
with_parts (tree.metadata at n e) ds = ds
with_parts (tree.target_scope at e) ds = ds
with_parts (tree.param at n t) ds = ds
with_parts (tree.param_with at n t e) ds = ds
with_parts (tree.var at n v) ds = ds
with_parts (tree.output at n t v) ds = ds
with_parts (tree.a_resource r) ds = with_nested r ds
with_parts (tree.a_module at n q b) ds = ds

abbrev pub with_statement : StatementTree → List DeclarationTree → List DeclarationTree
with_statement (tree.statement es d) ds = with_parts d (ds ++ d ∷ [])

abbrev pub with_statements : FileTree → List DeclarationTree → List DeclarationTree
with_statements [] ds = ds
with_statements (s ∷ ss) ds = with_statements ss (with_statement s ds)

-- the declarations of a file
abbrev pub declarations_of : FileTree → List DeclarationTree
declarations_of f = with_statements f []
