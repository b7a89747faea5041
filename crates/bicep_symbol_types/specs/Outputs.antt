-- The types of the outputs of a file, in source order.
use Rattle.std.specs.Prelude.{List, [], ◌∷◌, ◌++◌, Option, Some, None, option_to_list}
use Rattle.bicep_tree.specs.Tree.{StatementTree, FileTree}
use Rattle.bicep_tree.specs.Tree as tree
use Rattle.bicep_signatures.specs.declared.value_type.ValueType.{ValueType}
use Rattle.bicep_symbol_types.specs.SymbolTypes.{type_named}

-- the type of the output that a statement declares
abbrev pub output_type : StatementTree → Option ValueType
output_type (tree.statement ds (tree.metadata at n e)) = None
output_type (tree.statement ds (tree.target_scope at e)) = None
output_type (tree.statement ds (tree.param at n ty)) = None
output_type (tree.statement ds (tree.param_with at n ty e)) = None
output_type (tree.statement ds (tree.var at n v)) = None
output_type (tree.statement ds (tree.output at n ty v)) = Some (type_named ty)
output_type (tree.statement ds (tree.a_resource r)) = None
output_type (tree.statement ds (tree.a_module at n q b)) = None

-- the types of the outputs of a file
abbrev pub output_types : FileTree → List ValueType
output_types [] = []
output_types (s ∷ ss) = option_to_list (output_type s) ++ output_types ss
