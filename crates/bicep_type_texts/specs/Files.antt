-- The type texts of a file.
use Rattle.std.specs.Prelude.{ℕ, [], ◌∷◌, Option, Some, None, if◌then◌else◌}
use Rattle.bicep_tree.specs.declared.leaf.Quoted.{Quoted}
use Rattle.bicep_tree.specs.Tree.{ResourceTree, BodyTree, ObjectTree, MemberTree, MemberTrees, DeclarationTree}
use Rattle.bicep_tree.specs.Tree.{StatementTree, FileTree}
use Rattle.bicep_tree.specs.Tree as tree
use Rattle.bicep_type_texts.specs.Texts.{is_whole, is_part}
use Rattle.foundation.specs.Options.{or_else}

abbrev pub bad_whole : Quoted → Option ℕ
bad_whole q = if is_whole q.text then None else Some q.at

abbrev pub bad_part : Quoted → Option ℕ
bad_part q = if is_part q.text then None else Some q.at

abbrev mutual
  -- the first bad type text of a nested resource and of those in it
  pub bad_in_nested : ResourceTree → Option ℕ
  bad_in_nested (tree.resource at n q x b) = or_else (bad_part q) (bad_in_body b)

  pub bad_in_body : BodyTree → Option ℕ
  bad_in_body (tree.body_plain o) = bad_in_object o
  bad_in_body (tree.body_if at c o) = bad_in_object o
  bad_in_body (tree.body_each l o) = bad_in_object o
  bad_in_body (tree.body_each_if l at c o) = bad_in_object o

  pub bad_in_object : ObjectTree → Option ℕ
  bad_in_object (tree.braces at ms) = bad_in_members ms

  pub bad_in_members : MemberTrees → Option ℕ
  bad_in_members tree.no_member = None
  bad_in_members (tree.and_member m ms) = or_else (bad_in_member m) (bad_in_members ms)

  pub bad_in_member : MemberTree → Option ℕ
  bad_in_member (tree.property l v) = None
  bad_in_member (tree.child ds r) = bad_in_nested r

abbrev pub bad_in_resource : ResourceTree → Option ℕ
bad_in_resource (tree.resource at n q x b) = or_else (bad_whole q) (bad_in_body b)

abbrev pub bad_in_declaration : DeclarationTree → Option ℕ
bad_in_declaration (tree.metadata at n e) = None
bad_in_declaration (tree.target_scope at e) = None
bad_in_declaration (tree.param at n t) = None
bad_in_declaration (tree.param_with at n t e) = None
bad_in_declaration (tree.var at n v) = None
bad_in_declaration (tree.output at n t v) = None
bad_in_declaration (tree.a_resource r) = bad_in_resource r
bad_in_declaration (tree.a_module at n q b) = None

abbrev pub bad_in_statement : StatementTree → Option ℕ
bad_in_statement (tree.statement ds d) = bad_in_declaration d

-- the first bad type text of a file
abbrev pub bad_type : FileTree → Option ℕ
bad_type [] = None
bad_type (s ∷ ss) = or_else (bad_in_statement s) (bad_type ss)
