-- Names that are given twice in the objects and loops of a file.
use Rattle.std.specs.Prelude.{ℕ, [], ◌∷◌, Option, None}
use Rattle.bicep_tree.specs.Tree.{DeclarationTree, StatementTree, FileTree}
use Rattle.bicep_tree.specs.Tree as tree
use Rattle.bicep_members.specs.Parts.{repeated_in, repeated_in_value, repeated_in_decorators}
use Rattle.bicep_members.specs.Parts.{repeated_in_resource, repeated_in_module}
use Rattle.foundation.specs.Options.{or_else}

abbrev pub repeated_in_declaration : DeclarationTree → Option ℕ
repeated_in_declaration (tree.metadata at n e) = repeated_in e
repeated_in_declaration (tree.target_scope at e) = repeated_in e
repeated_in_declaration (tree.param at n t) = None
repeated_in_declaration (tree.param_with at n t e) = repeated_in e
repeated_in_declaration (tree.var at n v) = repeated_in_value v
repeated_in_declaration (tree.output at n t v) = repeated_in_value v
repeated_in_declaration (tree.a_resource r) = repeated_in_resource r
repeated_in_declaration (tree.a_module at n q b) = repeated_in_module b

abbrev pub repeated_in_statement : StatementTree → Option ℕ
repeated_in_statement (tree.statement ds d) = or_else (repeated_in_decorators ds) (repeated_in_declaration d)

-- the first name that is given twice in an object or a loop of a file
abbrev pub repeated_member : FileTree → Option ℕ
repeated_member [] = None
repeated_member (s ∷ ss) = or_else (repeated_in_statement s) (repeated_member ss)
