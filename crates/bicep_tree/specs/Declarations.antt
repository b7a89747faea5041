-- Which tokens spell which files (Microsoft Learn, "Bicep file structure and syntax").
use Rattle.std.specs.Prelude.{ℕ, false, List, [], ◌∷◌, map, codes}
use Rattle.bicep_lexer.specs.Reading.{Standing}
use Rattle.bicep_tree.specs.declared.leaf.TypeName.{TypeName}
use Rattle.bicep_tree.specs.declared.leaf.TypeName.TheVariants as type
use Rattle.bicep_tree.specs.declared.terminal.Terminal.TheVariants as t
use Rattle.bicep_tree.specs.Tree.{DeclarationTree, metadata, target_scope, param, param_with, var, output, a_module}
use Rattle.bicep_tree.specs.Tree.{StatementTree, statement, FileTree, ObjectTree, MemberTrees, BodyTree}
use Rattle.bicep_tree.specs.Tree as tree
use Rattle.bicep_tree.specs.Terminals.{placed}
use Rattle.bicep_tree.specs.Forms.{Form, ◌▹◌, sign_at, sign, is_newline, one, any, named, word, quoted}
use Rattle.bicep_tree.specs.Expressions.{expression, value, decorated, a_resource, body}

abbrev pub type_word : TypeName → List ℕ
type_word type.String = codes "string"
type_word type.Int = codes "int"
type_word type.Bool = codes "bool"
type_word type.Object = codes "object"
type_word type.Array = codes "array"

-- this word, at that place
abbrev pub word_at : ℕ → List ℕ → Form
word_at at w = sign_at at (t.Name w)

abbrev pub declaration : DeclarationTree → Form
declaration (metadata at n e) = word_at at (codes "metadata") ▹ named false n ▹ sign t.Assign ▹ expression false e
declaration (target_scope at e) = word_at at (codes "targetScope") ▹ sign t.Assign ▹ expression false e
declaration (param at n ty) = word_at at (codes "param") ▹ named false n ▹ word (type_word ty)
declaration (param_with at n ty e) =
    word_at at (codes "param") ▹ named false n ▹ word (type_word ty) ▹ sign t.Assign ▹ expression false e
declaration (var at n v) = word_at at (codes "var") ▹ named false n ▹ sign t.Assign ▹ value v
declaration (output at n ty v) =
    word_at at (codes "output") ▹ named false n ▹ word (type_word ty) ▹ sign t.Assign ▹ value v
declaration (tree.a_resource r) = a_resource r
declaration (a_module at n p b) = word_at at (codes "module") ▹ named false n ▹ quoted p ▹ sign t.Assign ▹ body b

abbrev pub a_statement : StatementTree → Form
a_statement (statement ds d) = decorated ds ▹ declaration d

-- statements between newlines
abbrev mutual
  pub a_file : FileTree → Form
  a_file [] = any is_newline
  a_file (s ∷ ss) = any is_newline ▹ a_statement s ▹ further_statements ss

  -- the statements after one
  pub further_statements : FileTree → Form
  further_statements [] = any is_newline
  further_statements (s ∷ ss) = one is_newline ▹ any is_newline ▹ a_statement s ▹ further_statements ss

-- the tokens spell the file
abbrev pub Spells : FileTree → List Standing → Type 0
Spells f ts = a_file f (map placed ts) []

abbrev pub object_members : ObjectTree → MemberTrees
object_members (tree.braces at ms) = ms

abbrev pub body_members : BodyTree → MemberTrees
body_members (tree.body_plain o) = object_members o
body_members (tree.body_if at c o) = object_members o
body_members (tree.body_each l o) = object_members o
body_members (tree.body_each_if l at c o) = object_members o
